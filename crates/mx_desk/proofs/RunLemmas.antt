-- Turns of the desk one after another.
use Rattle.std.proofs.Common.{◌≡◌, ◌≤◌, ℕ, ◌+◌, List, [], ◌∷◌, ◌++◌, length, Option, Some, None, refl, sym, ap, subst, ◌∙◌, inl, append_assoc, arith}
use Rattle.std.specs.Prelude.{Ok, Err, IfSome}
use Rattle.std.proofs.lemmas.List.{append-nil, map-append, take_all}
use Rattle.std.specs.Io.KnownBytes.{Consumes, Keeps, IsAtEnd}
use Rattle.mx_book.specs.declared.contract.StoreFault.{StoreFault}
use Rattle.mx_desk.specs.declared.desk.Served.TheVariants as served
use Rattle.mx_desk.specs.declared.fault.DeskFault.TheVariants as fault
use Rattle.mx_desk.specs.Requests.{Begins, Nothing, Stops, First, none, nothing}
use Rattle.mx_desk.specs.Serve.{Marked, outputs, requests_of, stop_text, ServedAll}
use Rattle.mx_desk.specs.Steps.{State, Steps, Ran, Turns}
use Rattle.std.proofs.KnownBytes.{Appends-nil, Appends-trans, Appends-kept, Consumes-nil, Consumes-trans}
use Rattle.mx_desk.proofs.LawLemmas.{marks-append, outputs-append, world_after-append}
use Rattle.mx_desk.proofs.RequestLemmas.{Begins-append, Begins-then}

module _ (fails : StoreFault → Type 0) where
  pub Ran-none : (s : State) → Ran fails s [] s
  Ran-none s = record {
    came = [];
    out = [];
    consumed = Consumes-nil _;
    wrote = Appends-nil _;
    answered = record { begins = rw (append-nil s.pending) none; marks = tt; out_is = refl; world_is = refl };
  }

  pub Ran-step : (s u t : State) (ms : List Marked) (n : ℕ) → Ran fails s ms u → (ns : List Marked) → Turns fails u (Ok (served.Answered n)) ns t → Ran fails s (ms ++ ns) t × (n ≡ length ns)
  Ran-step s u t ms n ran ns turns = subst (λ ns. Ran fails s (ms ++ ns) t × (n ≡ length ns)) turns.answered (more turns.turn) where
    more : (step : Steps fails u (Ok (served.Answered n)) t) → Ran fails s (ms ++ step.then.marked) t × (n ≡ length step.then.marked)
    more step =
        let a = step.then in
        let m = a.marked in
        let out_is = ran.answered.out_is in
        let world_is = ran.answered.world_is in
        let marked = a.marks in (
          record {
            came = ran.came ++ step.came;
            out = ran.out ++ outputs u.world m;
            consumed = Consumes-trans _ _ _ ran.came step.came ran.consumed step.consumed;
            wrote = Appends-trans _ _ _ ran.out (outputs u.world m) ran.wrote a.wrote;
            answered = record {
              begins =
                  rw (sym (append_assoc s.pending ran.came step.came), map-append) (
                  Begins-then _ (requests_of ms) (u.pending ++ step.came) (requests_of m) t.pending
                  (Begins-append (s.pending ++ ran.came) step.came (requests_of ms) u.pending ran.answered.begins)
                  a.begins);
              marks = marks-append fails s.world ms m ran.answered.marks (rw world_is at marked);
              out_is = rw (outputs-append, out_is, world_is) refl;
              world_is = a.world ∙ rw (world_after-append, world_is) refl;
            };
          },
          a.count,
        )

  append_nil_parts : (a b : List ℕ) → a ++ b ≡ [] → (a ≡ []) × (b ≡ [])
  append_nil_parts [] b e = (refl, e)
  append_nil_parts (x ∷ a) b e = absurd (cc)

  -- the whole input was served, where the buffer was empty
  pub serves_nothing : (s u t : State) (ms : List Marked) → s.pending ≡ [] → (ran : Ran fails s ms u) → Steps fails u (Ok served.Nothing) t → ServedAll s.world s.input ms (ran.out ++ []) (length ms)
  serves_nothing s u t ms fresh ran step = record {
    end = Nothing;
    is_end = tt;
    out_is = ap (λ l. l ++ []) ran.answered.out_is;
    count = omega arith;
    all = by s.input t.input (Consumes-trans _ _ _ ran.came step.came ran.consumed step.consumed) step.then.at_end;
  }
    where
      by : (i j : Option (List ℕ)) → Consumes i j (ran.came ++ step.came) → IsAtEnd j → IfSome i (λ b. (rest : List ℕ) × Begins b (requests_of ms) rest × First rest Nothing)
      by None j e f = tt
      by (Some b) None e f = absurd e
      by (Some b) (Some rest) e f =
          let parts = append_nil_parts u.pending step.came step.then.empty in
          let all : b ≡ s.pending ++ ran.came = e ∙ rw (f, parts.1, fresh, append-nil (ran.came ++ []), append-nil ran.came) refl in
          (u.pending, rw all ran.answered.begins, rw parts.0 nothing)

  pub serves_stopped : (s u t : State) (ms : List Marked) → s.pending ≡ [] → (ran : Ran fails s ms u) (step : Steps fails u (Ok served.Stopped) t) → ServedAll s.world s.input ms (ran.out ++ stop_text step.then.stop) (length ms + 1)
  serves_stopped s u t ms fresh ran step = record {
    end = Stops step.then.stop;
    is_end = tt;
    out_is = ap (λ l. l ++ stop_text step.then.stop) ran.answered.out_is;
    count = refl;
    all = by s.input t.input (Consumes-trans _ _ _ ran.came step.came ran.consumed step.consumed) step.then.first;
  }
    where
      by : (i j : Option (List ℕ)) → Consumes i j (ran.came ++ step.came) → IfSome j (λ rest. First ((u.pending ++ step.came) ++ rest) (Stops step.then.stop))
          → IfSome i (λ b. (rest : List ℕ) × Begins b (requests_of ms) rest × First rest (Stops step.then.stop))
      by None j e f = tt
      by (Some b) None e f = absurd e
      by (Some b) (Some rest) e f =
          let all : b ≡ (s.pending ++ ran.came) ++ (step.came ++ rest) = e ∙ rw (fresh, append_assoc) refl in
          (u.pending ++ (step.came ++ rest), rw all (Begins-append (s.pending ++ ran.came) (step.came ++ rest) (requests_of ms) u.pending ran.answered.begins), rw append_assoc at f)

  -- ---- answered requests, and then a flush

  pub flushed : (s t : State) (ms : List Marked) (n : ℕ) (output : Option (List ℕ)) → Turns fails s (Ok (served.Answered n)) ms t → Keeps t.output output → Turns fails s (Ok (served.Answered n)) ms (record t { output = output })
  flushed s t ms n output turns kept =
      let step = turns.turn in
      let a = step.then in record {
        turn = record {
          came = step.came;
          consumed = step.consumed;
          then = record { marked = a.marked; marks = a.marks; begins = a.begins; count = a.count; some = a.some; wrote = Appends-kept _ _ _ (outputs s.world a.marked) a.wrote kept; world = a.world };
        };
        answered = turns.answered;
      }

  pub unflushed : (s t : State) (ms : List Marked) (n : ℕ) (output : Option (List ℕ)) → length ms ≤ 64 → Turns fails s (Ok (served.Answered n)) ms t → Keeps t.output output → Turns fails s (Err fault.Write) ms (record t { output = output })
  unflushed s t ms n output few turns kept =
      let step = turns.turn in
      let a = step.then in
      let text : List ℕ = outputs s.world a.marked in
      let wrote = Appends-kept _ _ _ text a.wrote kept in record {
        turn = record {
          came = step.came;
          consumed = step.consumed;
          then = inl (record {
            marked = a.marked;
            few = subst (λ l. length l ≤ 64) (sym turns.answered) few;
            marks = a.marks;
            rest = t.pending;
            count = length text;
            begins = a.begins;
            cut = omega arith;
            wrote = rw (take_all (length text) text (omega arith)) wrote;
            world = a.world;
          });
        };
        answered = turns.answered;
      }
