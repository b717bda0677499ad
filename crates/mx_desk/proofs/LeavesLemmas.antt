-- What a call of the desk leaves, however it ends.
use Rattle.std.proofs.Common.{◌≡◌, ◌≤◌, ℕ, ◌+◌, inl, inr, List, [], ◌++◌, take, length, refl, sym, ap, subst, ◌∙◌, append_assoc, arith}
use Rattle.std.specs.Prelude.{Result, Ok, Err}
use Rattle.std.proofs.lemmas.List.{append-nil, map-append, take_all}
use Rattle.std.specs.Io.KnownBytes.{Appends, Consumes}
use Rattle.mx_book.specs.declared.contract.StoreFault.{StoreFault}
use Rattle.mx_desk.specs.declared.head.Stop.{Stop}
use Rattle.mx_desk.specs.declared.desk.Served.{Served}
use Rattle.mx_desk.specs.declared.desk.Served.TheVariants as served
use Rattle.mx_desk.specs.declared.fault.DeskFault.{DeskFault}
use Rattle.mx_desk.specs.declared.fault.DeskFault.TheVariants as fault
use Rattle.mx_desk.specs.Leaves.{IsWritten, Leaves, Serves, Runs}
use Rattle.mx_desk.specs.Requests.{Begins}
use Rattle.mx_desk.specs.Serve.{Marked, AllMayBeMarked, outputs, requests_of, stop_text, world_after}
use Rattle.mx_desk.specs.Steps.{State, StepCase, Ran, answered_by, Turns}
use Rattle.std.proofs.KnownBytes.{Appends-trans, Consumes-trans}
use Rattle.mx_desk.proofs.LawfulLemmas.{lawful_requests}
use Rattle.mx_desk.proofs.LawLemmas.{marks-append, outputs-append, world_after-append}
use Rattle.mx_desk.proofs.RequestLemmas.{Begins-append, Begins-then}
use Rattle.mx_desk.proofs.RunLemmas.{Ran-none, serves_nothing, serves_stopped}

module _ (fails : StoreFault → Type 0) (s u t : State) (ms : List Marked) (ran : Ran fails s ms u) (came : List ℕ) (consumed : Consumes u.input t.input came) (pending : List ℕ) where
  abbrev all : List ℕ
  all = ran.came ++ came

  -- no request more was answered
  no_more : (out : List ℕ) → Appends u.output t.output out → t.world ≡ u.world → IsWritten s.world ms (ran.out ++ out) → Leaves fails s ms (ran.out ++ out) (record t { pending = pending })
  no_more out wrote world written = record {
    came = all;
    rest = u.pending ++ came;
    consumed = Consumes-trans _ _ _ ran.came came ran.consumed consumed;
    wrote = Appends-trans _ _ _ ran.out out ran.wrote wrote;
    begins = rw (sym (append_assoc s.pending ran.came came)) (Begins-append (s.pending ++ ran.came) came (requests_of ms) u.pending ran.answered.begins);
    marks = ran.answered.marks;
    written = written;
    lawful = lawful_requests s.world t.world ms (world ∙ ran.answered.world_is);
  }

  -- the same, where a turn answered none
  none_more : (out : List ℕ) → Appends u.output t.output out → t.world ≡ u.world → IsWritten s.world ms (ran.out ++ out) → (o : List ℕ) × Leaves fails s (ms ++ []) o (record t { pending = pending })
  none_more out wrote world written = (ran.out ++ out, rw (append-nil ms) (no_more out wrote world written))

  -- more were, and what was written of their responses
  some_more : (ns : List Marked) (rest out : List ℕ) → Begins (u.pending ++ came) (requests_of ns) rest → AllMayBeMarked fails u.world ns → Appends u.output t.output out → t.world ≡ world_after u.world ns
      → IsWritten s.world (ms ++ ns) (ran.out ++ out) → (o : List ℕ) × Leaves fails s (ms ++ ns) o (record t { pending = pending })
  some_more ns rest out begins marks wrote world written =
      let world_is = ran.answered.world_is in (
        ran.out ++ out,
        record {
          came = all;
          rest = rest;
          consumed = Consumes-trans _ _ _ ran.came came ran.consumed consumed;
          wrote = Appends-trans _ _ _ ran.out out ran.wrote wrote;
          begins = rw (sym (append_assoc s.pending ran.came came), map-append) (
              Begins-then _ (requests_of ms) (u.pending ++ came) (requests_of ns) rest (Begins-append (s.pending ++ ran.came) came (requests_of ms) u.pending ran.answered.begins) begins);
          marks = marks-append fails s.world ms ns ran.answered.marks (rw world_is at marks);
          written = written;
          lawful = lawful_requests s.world t.world (ms ++ ns) (world ∙ rw (world_after-append, world_is) refl);
        },
      )

  -- nothing more was written, or the response to a fault of the input, or a part of it
  nothing_more : IsWritten s.world ms (ran.out ++ [])
  nothing_more = inl (append-nil _ ∙ ran.answered.out_is)

  stopped : (stop : Stop) (count : ℕ) → IsWritten s.world ms (ran.out ++ take count (stop_text stop))
  stopped stop count = inr (inl (stop, count, ap (λ x. x ++ take count (stop_text stop)) ran.answered.out_is))

  stopped_whole : (stop : Stop) → IsWritten s.world ms (ran.out ++ stop_text stop)
  stopped_whole stop = subst (λ x. IsWritten s.world ms (ran.out ++ x)) (take_all (length (stop_text stop)) (stop_text stop) (omega arith)) (stopped stop (length (stop_text stop)))

  -- the responses of the requests are whole
  whole : (ns : List Marked) → ran.out ++ outputs u.world ns ≡ outputs s.world (ms ++ ns)
  whole ns = let out_is = ran.answered.out_is in let world_is = ran.answered.world_is in sym (outputs-append s.world ms ns ∙ rw (out_is, world_is) refl)

  -- they were cut
  cut_short : (ns : List Marked) (count : ℕ) → length ns ≤ 64 → IsWritten s.world (ms ++ ns) (ran.out ++ take count (outputs u.world ns))
  cut_short ns count few = inr (inr (ms, ns, count, few, refl, (λ i. ran.answered.out_is i ++ take count (outputs (ran.answered.world_is i) ns))))

  by_case : (r : Result Served DeskFault) (c : StepCase fails u (u.pending ++ came) r t) → (o : List ℕ) × Leaves fails s (ms ++ answered_by fails u (u.pending ++ came) t r c) o (record t { pending = pending })
  by_case (Ok served.Nothing) c = none_more [] c.wrote c.world nothing_more
  by_case (Ok (served.Answered n)) c = some_more c.marked t.pending (outputs u.world c.marked) c.begins c.marks c.wrote c.world (inl (whole c.marked))
  by_case (Ok served.Stopped) c = none_more (stop_text c.stop) c.wrote c.world (stopped_whole c.stop)
  by_case (Err fault.Read) c = none_more [] c.wrote c.world nothing_more
  by_case (Err fault.Turns) c = none_more [] c.wrote c.world nothing_more
  by_case (Err fault.Write) (inl c) = some_more c.marked c.rest (take c.count (outputs u.world c.marked)) c.begins c.marks c.wrote c.world (cut_short c.marked c.count c.few)
  by_case (Err fault.Write) (inr (inl c)) = none_more (take c.count (stop_text c.stop)) c.wrote c.world (stopped c.stop c.count)
  by_case (Err fault.Write) (inr (inr c)) = none_more [] c.wrote c.world nothing_more

-- no request behind requests
behind_none : (fails : StoreFault → Type 0) (s t : State) (r : Result ℕ DeskFault) (ms ns : List Marked) → [] ≡ ns → Runs fails s r ms t → Runs fails s r (ms ++ ns) t
behind_none fails s t r ms ns none runs = subst (λ ns. Runs fails s r (ms ++ ns) t) none (subst (λ ms. Runs fails s r ms t) (sym (append-nil ms)) runs)

-- one turn
pub serves : (fails : StoreFault → Type 0) (s t : State) (r : Result Served DeskFault) (ms : List Marked) (pending : List ℕ) → length ms ≤ 1 → Turns fails s r ms t → Serves fails s r ms (record t { pending = pending })
serves fails s t r ms pending alone turns =
    let turn = turns.turn in
    let led = by_case fails s s t [] (Ran-none fails s) turn.came turn.consumed pending r turn.then in
    record { alone = alone; left = t.pending; turns = turns; out = led.0; leaves = subst (λ ms. Leaves fails s ms led.0 (record t { pending = pending })) turns.answered led.1 }

-- turns that answered, and one that ends the run
pub runs_nothing : (fails : StoreFault → Type 0) (s u t : State) (ms ns : List Marked) (pending : List ℕ) → s.pending ≡ [] → Ran fails s ms u → Turns fails u (Ok served.Nothing) ns t
    → Runs fails s (Ok (length ms)) (ms ++ ns) (record t { pending = pending })
runs_nothing fails s u t ms ns pending fresh ran turns =
    let turn = turns.turn in
    let c = turn.then in
    let written = nothing_more fails s u t ms ran turn.came turn.consumed pending in
    let runs : Runs fails s (Ok (length ms)) ms (record t { pending = pending }) = record {
      out = ran.out ++ [];
      leaves = no_more fails s u t ms ran turn.came turn.consumed pending [] c.wrote c.world written;
      ends = serves_nothing fails s u t ms fresh ran turn;
    } in
    behind_none fails s _ _ ms ns turns.answered runs

pub runs_stopped : (fails : StoreFault → Type 0) (s u t : State) (ms ns : List Marked) (pending : List ℕ) → s.pending ≡ [] → Ran fails s ms u → Turns fails u (Ok served.Stopped) ns t
    → Runs fails s (Ok (length ms + 1)) (ms ++ ns) (record t { pending = pending })
runs_stopped fails s u t ms ns pending fresh ran turns =
    let turn = turns.turn in
    let c = turn.then in
    let written = stopped_whole fails s u t ms ran turn.came turn.consumed pending c.stop in
    let runs : Runs fails s (Ok (length ms + 1)) ms (record t { pending = pending }) = record {
      out = ran.out ++ stop_text c.stop;
      leaves = no_more fails s u t ms ran turn.came turn.consumed pending (stop_text c.stop) c.wrote c.world written;
      ends = serves_stopped fails s u t ms fresh ran turn;
    } in
    behind_none fails s _ _ ms ns turns.answered runs

pub runs_faulty : (fails : StoreFault → Type 0) (s u t : State) (ms ns : List Marked) (e : DeskFault) (pending : List ℕ) → Ran fails s ms u → Turns fails u (Err e) ns t
    → Runs fails s (Err e) (ms ++ ns) (record t { pending = pending })
runs_faulty fails s u t ms ns e pending ran turns =
    let turn = turns.turn in
    let led = by_case fails s u t ms ran turn.came turn.consumed pending (Err e) turn.then in
    subst (λ ns. Runs fails s (Err e) (ms ++ ns) (record t { pending = pending })) turns.answered (record {
      out = led.0;
      leaves = led.1;
      ends = record { before = ms; at = u; ran = ran; left = t.pending; turn = turn; all = refl };
    })
