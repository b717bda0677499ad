use Rattle.std.proofs.Common.{◌≡◌, ◌<◌, ◌&&◌, ◌||◌, not, Some, sym, ◌∙◌, ap, arith}
use Rattle.std.specs.Prelude.{slice_get}
use Rattle.std.specs.FinMap.{contains_key}
use Rattle.mx_pay.specs.Names.{is_name}
use Rattle.mx_pay.specs.Log.{logged, log_len}
use Rattle.mx_pay.proofs.CodeLemmas.{no_gap}
use Rattle.mx_book.specs.World.{result_cmp}
use Rattle.mx_sorted.specs.Slots.{map_of}
use Rattle.mx_book.proofs.LogLemmas.{among_all}
use Rattle.mx_book.proofs.ResultLemmas.{taken_next, put_next}
use Rattle.mx_memory.proofs.results.archive.Goals as goal
use Rattle.mx_memory.proofs.results.archive.Goals.{in-Some, in_default}

pub loop-place-preserved : goal.loop-place-preserved
loop-place-preserved c =
    elim c.match-at.branch [
      | in-Some w ↦
          let at : slice_get (logged c.args.results.now) c.loop-place.place ≡ Some w.in-Some.details = sym c.at.ensures.value ∙ w.in-Some.is in
          record {
            upto = c.loop-place.invariant.upto;
            limit = c.loop-place.invariant.limit;
            tray = λ k. ap (λ s. contains_key (map_of result_cmp s) k) w.tray-is ∙ ap (λ m. contains_key m k) w.remove.ensures.map
                ∙ taken_next (map_of result_cmp c.args.tray.now) (map_of result_cmp c.loop-place.tray) c.args.purse c.args.results.now c.loop-place.place w.in-Some.details at c.loop-place.invariant.tray k;
            archive = λ k. ap (λ s. contains_key (map_of result_cmp s) k) w.archive-is ∙ ap (λ m. contains_key m k) w.put.ensures.map
                ∙ put_next (map_of result_cmp c.args.archive.now) (map_of result_cmp c.loop-place.archive) c.args.purse c.args.results.now c.loop-place.place w.in-Some.details at c.loop-place.invariant.archive k;
            tray_room = let same = ap (λ s. s.room) w.tray-is in omega (arith, same, w.remove.ensures.room, c.loop-place.invariant.tray_room);
            archive_room = let same = ap (λ s. s.room) w.archive-is in omega (arith, same, w.put.ensures.room, c.loop-place.invariant.archive_room);
          }
      | in_default w ↦
          let low : c.loop-place.place < log_len c.args.results.now = omega (arith, c.loop-place-test.true, c.loop-place.invariant.upto) in
          absurd (no_gap c.args.results.now c.loop-place.place low (sym c.at.ensures.value ∙ w.in_default.is))
    ]

pub returns-clause-tray : goal.returns-clause-tray
returns-clause-tray c k = c.loop-place.invariant.tray k ∙ ap (λ b. contains_key (map_of result_cmp c.args.tray.now) k && not (is_name c.args.purse k.0 && b)) (among_all c.args.results.now c.loop-place.place (omega (arith, c.loop-place-test.false, c.loop-place.invariant.upto)) k.1)

pub returns-clause-archive : goal.returns-clause-archive
returns-clause-archive c k = c.loop-place.invariant.archive k ∙ ap (λ b. contains_key (map_of result_cmp c.args.archive.now) k || (is_name c.args.purse k.0 && b)) (among_all c.args.results.now c.loop-place.place (omega (arith, c.loop-place-test.false, c.loop-place.invariant.upto)) k.1)
