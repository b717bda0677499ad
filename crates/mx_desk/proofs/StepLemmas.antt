-- The ways that a turn of the desk ends.
use Rattle.std.proofs.Common.{◌≡◌, ℕ, zero, suc, ◌*◌, ◌^◌, ◌+◌, ◌<◌, ◌≤◌, inl, inr, List, [], ◌++◌, length, take, drop, Option, Some, None, refl, sym, ◌∙◌, arith}
use Rattle.std.specs.Prelude.{Ok, Err, IfSome}
use Rattle.std.proofs.lemmas.List.{append-nil}
use Rattle.std.specs.Io.KnownBytes.{Appends, Consumes, IsAtEnd}
use Rattle.mx_book.specs.declared.contract.StoreFault.{StoreFault}
use Rattle.mx_desk.specs.declared.head.Stop.{Stop}
use Rattle.mx_desk.specs.declared.desk.Served.TheVariants as served
use Rattle.mx_desk.specs.declared.fault.DeskFault.TheVariants as fault
use Rattle.mx_desk.specs.Devices.{capped}
use Rattle.mx_desk.specs.Requests.{Request, Next, Nothing, Stops, Whole, Begins, First, IsEnd, nothing}
use Rattle.mx_desk.specs.Found.{IsOpen}
use Rattle.mx_desk.specs.Serve.{Marked, AllMayBeMarked, outputs, requests_of, stop_text, world_after}
use Rattle.mx_desk.specs.Steps.{State, Turns, Waits}

pub first_now : (b : List ℕ) (r : Request) (n : ℕ)
    → ((more : List ℕ) → First (b ++ more) (Whole r (drop n b ++ more))) → First b (Whole r (drop n b))
first_now b r n f = let now = f [] in rw (append-nil b, append-nil (drop n b)) at now

-- what came so far
pub record Came (s t : State) (pending : List ℕ) : Type 0 where
  pub came : List ℕ
  pub consumed : Consumes s.input t.input came
  pub pending_is : pending ≡ s.pending ++ came

module _ (fails : StoreFault → Type 0) where
  pub answered_step : (s t : State) (pending : List ℕ) (n : ℕ) (ms : List Marked)
      → Came s t pending → Begins pending (requests_of ms) t.pending → n ≡ length ms → 0 < n → AllMayBeMarked fails s.world ms
      → Appends s.output t.output (outputs s.world ms) → t.world ≡ world_after s.world ms
      → Turns fails s (Ok (served.Answered n)) ms t
  answered_step s t pending n ms c begins count some marks wrote world = record {
    turn = record {
      came = c.came;
      consumed = c.consumed;
      then = record { marked = ms; marks = marks; begins = rw (sym c.pending_is) begins; count = count; some = some; wrote = wrote; world = world };
    };
    answered = refl;
  }

  pub cut_step : (s t : State) (pending rest : List ℕ) (ms : List Marked) (count : ℕ)
      → Came s t pending → Begins pending (requests_of ms) rest → length ms ≤ 64 → AllMayBeMarked fails s.world ms
      → count ≤ length (outputs s.world ms) → Appends s.output t.output (take count (outputs s.world ms)) → t.world ≡ world_after s.world ms
      → Turns fails s (Err fault.Write) ms t
  cut_step s t pending rest ms count c begins few marks cut wrote world = record {
    turn = record {
      came = c.came;
      consumed = c.consumed;
      then = inl (record { marked = ms; few = few; marks = marks; rest = rest; count = count; begins = rw (sym c.pending_is) begins; cut = cut; wrote = wrote; world = world });
    };
    answered = refl;
  }

  open_next : (b : List ℕ) (o : Option Stop) → IsOpen b o → (next : Next) × First b next × IsEnd next
  open_next b None e = (Nothing, (rw e nothing), tt)
  open_next b (Some stop) x = (Stops stop, x.0, tt)

  waits : (s t : State) (pending : List ℕ) (o : Option Stop)
      → Came s t pending → IsOpen pending o → t.pending ≡ pending → Appends s.output t.output [] → t.world ≡ s.world
      → (came : List ℕ) × Consumes s.input t.input came × Waits s (s.pending ++ came) t
  waits s t pending o c how left wrote world =
      let n = open_next pending o how in (
        c.came,
        c.consumed,
        record {
          next = n.0;
          first = rw (sym c.pending_is) n.1;
          is_end = n.2;
          pending = left ∙ c.pending_is;
          wrote = wrote;
          world = world;
        },
      )

  pub turns_step : (s t : State) (pending : List ℕ) (o : Option Stop)
      → Came s t pending → IsOpen pending o → t.pending ≡ pending → Appends s.output t.output [] → t.world ≡ s.world
      → Turns fails s (Err fault.Turns) [] t
  turns_step s t pending o c how left wrote world =
      let w = waits s t pending o c how left wrote world in
      record { turn = record { came = w.0; consumed = w.1; then = w.2 }; answered = refl }

  pub read_step : (s t : State) (pending : List ℕ) (o : Option Stop)
      → Came s t pending → IsOpen pending o → t.pending ≡ pending → Appends s.output t.output [] → t.world ≡ s.world
      → Turns fails s (Err fault.Read) [] t
  read_step s t pending o c how left wrote world =
      let w = waits s t pending o c how left wrote world in
      record { turn = record { came = w.0; consumed = w.1; then = w.2 }; answered = refl }

  pub flush_step : (s t : State) (pending : List ℕ) (o : Option Stop)
      → Came s t pending → IsOpen pending o → t.pending ≡ pending → Appends s.output t.output [] → t.world ≡ s.world
      → Turns fails s (Err fault.Write) [] t
  flush_step s t pending o c how left wrote world =
      let w = waits s t pending o c how left wrote world in
      record { turn = record { came = w.0; consumed = w.1; then = inr (inr w.2) }; answered = refl }

  -- a fault of the input, whatever comes after what is pending
  pub stop_step : (s t : State) (pending : List ℕ) (stop : Stop)
      → Came s t pending → ((more : List ℕ) → First (pending ++ more) (Stops stop))
      → Appends s.output t.output (stop_text stop) → t.world ≡ s.world
      → Turns fails s (Ok served.Stopped) [] t
  stop_step s t pending stop c first wrote world = record {
    turn = record {
      came = c.came;
      consumed = c.consumed;
      then = record { stop = stop; first = at_any t.input; wrote = wrote; world = world };
    };
    answered = refl;
  }
    where
      at_any : (i : Option (List ℕ)) → IfSome i (λ rest. First ((s.pending ++ c.came) ++ rest) (Stops stop))
      at_any None = tt
      at_any (Some rest) = rw (sym c.pending_is) (first rest)

  pub cut_stop_step : (s t : State) (pending : List ℕ) (stop : Stop) (count : ℕ)
      → Came s t pending → ((more : List ℕ) → First (pending ++ more) (Stops stop)) → count ≤ length (stop_text stop)
      → Appends s.output t.output (take count (stop_text stop)) → t.world ≡ s.world
      → Turns fails s (Err fault.Write) [] t
  cut_stop_step s t pending stop count c first cut wrote world = record {
    turn = record {
      came = c.came;
      consumed = c.consumed;
      then = inr (inl (record { stop = stop; count = count; first = at_any t.input; cut = cut; wrote = wrote; world = world }));
    };
    answered = refl;
  }
    where
      at_any : (i : Option (List ℕ)) → IfSome i (λ rest. First ((s.pending ++ c.came) ++ rest) (Stops stop))
      at_any None = tt
      at_any (Some rest) = rw (sym c.pending_is) (first rest)

  -- a fault of the input that is there because the input is at its end
  pub stop_at_end : (s t : State) (pending : List ℕ) (stop : Stop)
      → Came s t pending → First pending (Stops stop) → IsAtEnd t.input
      → Appends s.output t.output (stop_text stop) → t.world ≡ s.world
      → Turns fails s (Ok served.Stopped) [] t
  stop_at_end s t pending stop c first at_end wrote world = record {
    turn = record {
      came = c.came;
      consumed = c.consumed;
      then = record { stop = stop; first = at t.input at_end; wrote = wrote; world = world };
    };
    answered = refl;
  }
    where
      at : (i : Option (List ℕ)) → IsAtEnd i → IfSome i (λ rest. First ((s.pending ++ c.came) ++ rest) (Stops stop))
      at None e = tt
      at (Some rest) e = rw (e, append-nil (s.pending ++ c.came), sym c.pending_is) first

  pub cut_stop_at_end : (s t : State) (pending : List ℕ) (stop : Stop) (count : ℕ)
      → Came s t pending → First pending (Stops stop) → IsAtEnd t.input → count ≤ length (stop_text stop)
      → Appends s.output t.output (take count (stop_text stop)) → t.world ≡ s.world
      → Turns fails s (Err fault.Write) [] t
  cut_stop_at_end s t pending stop count c first at_end cut wrote world = record {
    turn = record {
      came = c.came;
      consumed = c.consumed;
      then = inr (inl (record { stop = stop; count = count; first = at t.input at_end; cut = cut; wrote = wrote; world = world }));
    };
    answered = refl;
  }
    where
      at : (i : Option (List ℕ)) → IsAtEnd i → IfSome i (λ rest. First ((s.pending ++ c.came) ++ rest) (Stops stop))
      at None e = tt
      at (Some rest) e = rw (e, append-nil (s.pending ++ c.came), sym c.pending_is) first

  pub nothing_step : (s t : State) (pending : List ℕ)
      → Came s t pending → pending ≡ [] → IsAtEnd t.input → Appends s.output t.output [] → t.world ≡ s.world
      → Turns fails s (Ok served.Nothing) [] t
  nothing_step s t pending c empty at_end wrote world = record {
    turn = record {
      came = c.came;
      consumed = c.consumed;
      then = record { empty = sym c.pending_is ∙ empty; at_end = at_end; wrote = wrote; world = world };
    };
    answered = refl;
  }

pub smaller : (t0 t r p0 p q n : ℕ) → t0 ≡ t + r → (r ≡ 0 → p ≡ p0) → p ≤ 12288 → n + q ≤ p → n + (12289 * t + q) ≤ 12289 * t0 + p0
smaller t0 t zero p0 p q n e same fits less = let s : p ≡ p0 = same refl in omega arith
smaller t0 t (suc r) p0 p q n e same fits less = omega arith

pub open_room : (b : List ℕ) (o : Option Stop) → IsOpen b o → length b < 12288
open_room b None e = rw e (omega arith)
open_room b (Some stop) x = x.1

pub capped_none : (a : ℕ) → a < 2 ^ 64 → a ≡ capped (a + 0)
capped_none a h = omega arith

pub capped_more : (a r b c : ℕ) → b ≡ capped (a + r) → c ≡ capped (b + 1) → c ≡ capped (a + (r + 1))
capped_more a r b c e f = omega arith

pub capped_then : (a r b q c : ℕ) → b ≡ capped (a + r) → c ≡ capped (b + q) → c ≡ capped (a + (r + q))
capped_then a r b q c e f = omega arith
