use Rattle.std.proofs.Common.{◌≡◌, Result, Ok, Err}
use Rattle.std.specs.Prelude.{IfOk, OnOk}
use Rattle.std.proofs.lemmas.Result.{on_err_weaker}
use Rattle.mx_files.proofs.FolderLemmas.{keeps-begin, on_any}
use Rattle.mx_files.proofs.PlacedLemmas.{keeps-late, puts-copy}
use Rattle.mx_files.proofs.copier.copy_to_place.Goals as goal

-- what was made and put was made
made_put : {X E : Type 0} {A B C : Type 0} (made put : Result X E) → (A → B → C) → IfOk put (λ x. made ≡ Ok x) → OnOk made A → OnOk put B → OnOk put C
made_put made (Ok x) so same first then = so (rw same at first) then
made_put made (Err e) so same first then = tt

pub returns-in_err-making-clause-kept : goal.returns-in_err-making-clause-kept
returns-in_err-making-clause-kept g c =
    on_any c.from_residual.result (keeps-begin c.args.replaces c.args.to.now (g.F.Folder.paths c.args.folder.now) (g.F.Folder.paths c.begin.new.folder) c.begin.ensures.others)

pub returns-clause-placed : goal.returns-clause-placed
returns-clause-placed g c =
    let making = c.in_ok-making in
    made_put c.make_copy-made.result c.end.result
    (λ none put. puts-copy c.args.replaces c.args.to.now (g.F.Folder.paths c.args.folder.now) (g.F.Folder.paths c.begin.new.folder) (g.F.Folder.paths c.make_copy-made.new.folder)
    (g.F.Folder.paths c.end.new.folder) making.making making.ensures.begins c.make_copy-made.ensures.others none c.end.ensures.others put)
    c.end.ensures.same c.make_copy-made.ensures.gone c.end.ensures.put

pub returns-clause-kept : goal.returns-clause-kept
returns-clause-kept g c =
    let making = c.in_ok-making in
    on_err_weaker c.end.result
    (keeps-late c.args.replaces c.args.to.now (g.F.Folder.paths c.args.folder.now) (g.F.Folder.paths c.begin.new.folder) (g.F.Folder.paths c.make_copy-made.new.folder)
    (g.F.Folder.paths c.end.new.folder) making.making making.ensures.begins making.ensures.others c.make_copy-made.ensures.others)
    c.end.ensures.err
