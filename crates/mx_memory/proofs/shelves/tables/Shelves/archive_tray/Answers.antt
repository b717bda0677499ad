use Rattle.std.proofs.Common.{◌≡◌, ◌&&◌, ◌||◌, not, ◌∙◌, ap}
use Rattle.std.specs.FinMap as fmap
use Rattle.mx_pay.specs.Log.{has_logged}
use Rattle.mx_book.specs.World.{results_but, results_of, and_results, result_cmp}
use Rattle.mx_book.specs.RowEdits.{log_at}
use Rattle.mx_book.specs.Rows.{Rows}
use Rattle.mx_memory.specs.Shelves.{rows_of}
use Rattle.mx_sorted.specs.Slots.{map_of}
use Rattle.mx_book.proofs.ResultLemmas.{is_one, tray_taken, archive_put}
use Rattle.mx_memory.proofs.shelves.tables.Shelves.archive_tray.Goals as goal

pub returns-clause-edited : goal.returns-clause-edited
returns-clause-edited c =
    let r : Rows = rows_of c.args.self.now in
    let log = log_at (fmap.get r.purses c.args.purse) in
    let tray : map_of result_cmp c.archive.new.tray ≡ results_but c.args.purse r.tray = tray_taken r.tray c.args.purse log c.requires.able (map_of result_cmp c.archive.new.tray) (λ k. c.archive.ensures.tray k ∙ ap (λ results. fmap.contains_key r.tray k && not (is_one c.args.purse (has_logged results) k)) c.tray_of-results.ensures) in
    let archive : map_of result_cmp c.archive.new.archive ≡ and_results r.archive (fmap.keys (results_of c.args.purse r.tray)) = archive_put r.tray c.args.purse log c.requires.able r.archive (map_of result_cmp c.archive.new.archive) (λ k. c.archive.ensures.archive k ∙ ap (λ results. fmap.contains_key r.archive k || is_one c.args.purse (has_logged results) k) c.tray_of-results.ensures) in
    λ i. record r { tray = tray i; archive = archive i }
