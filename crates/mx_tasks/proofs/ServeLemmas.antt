-- Rounds of clients.
use Rattle.std.proofs.Common.{◌≡◌, ◌∙◌, ◌≤◌, ℕ, Bool, List, [], ◌∷◌, ◌++◌, length, length-append, Option, Ok, Err, inl, inr, sym, ap, subst, arith}
use Rattle.std.proofs.lemmas.Bool.{false≢true}
use Rattle.std.proofs.lemmas.List.{append-nil}
use Rattle.std.proofs.lemmas.List.Elements.{All-drop, All-take}
use Rattle.std.proofs.Math.Seq.{drop-append_seam, take-append_seam}
use Rattle.std.specs.Prelude.{All, Contains, IfErr, IsOk, OnErr, OnOk, Result, is_ok}
use Rattle.mx_book.specs.Views.{IsLawful, RestsAt, Settles, View}
use Rattle.mx_book.specs.World.{Token, World}
use Rattle.mx_book.specs.declared.contract.StoreFault.{StoreFault}
use Rattle.mx_book.specs.declared.values.Caller.{Caller}
use Rattle.mx_desk.specs.Clients.{Exchange, Exchanges, HoldsEach, exchanges, none}
use Rattle.mx_desk.specs.Knows.{Knows, RestsKnown}
use Rattle.mx_desk.specs.Rounds.{Leads, Moves, Round, all_of, marked_of}
use Rattle.mx_desk.specs.Serve.{Marked, world_after}
use Rattle.mx_desk.proofs.ClientLemmas.{exchanges-append, exchanges_lawful, settled_round}
use Rattle.mx_desk.proofs.MoveLemmas.{moves_not, moves_on, rests_on}
use Rattle.mx_tasks.specs.Connections.{Gathers, ServesClients, ServesRound}
use Rattle.mx_tasks.specs.Halls.{Always, Hall, Have, IsFree, Tends}
use Rattle.mx_tasks.specs.Seats.{AreFresh, came_of, held_of}
use Rattle.mx_tasks.specs.Voices.{RingsFor, RingsOnce}
use Rattle.mx_tasks.specs.Works.{IsSaid, WorksServe, served_text}
use Rattle.mx_tasks.specs.declared.fault.TaskFault.{TaskFault}
use Rattle.mx_tasks.specs.declared.serve.alarm.Alarm.{Alarm}
use Rattle.mx_tasks.specs.declared.work.Done.{Done}
use Rattle.mx_tasks.specs.declared.serve.seat.Asked.{Asked}
use Rattle.mx_tasks.proofs.ConnectionLemmas.{rings_then}
use Rattle.mx_tasks.proofs.GatherLemmas.{exchanges_length, held_length}
use Rattle.mx_tasks.proofs.HallLemmas.{nobody_asks, tends_as, tends_then}

-- what rang for one call rang for another, which began with the same alarm
pub rings_as : {V : Type 0} (said : V → Option (List ℕ)) (a b c : Alarm V) (P Q : Type 0) → b ≡ a → (P → Q) → RingsFor said b c P → RingsFor said a c Q
rings_as said a b c P Q same so (inl once) = inl (subst (λ x. RingsOnce said x c) same once)
rings_as said a b c P Q same so (inr shut) = inr (shut.0, subst (λ x. RingsOnce said x shut.0) same shut.1, so shut.2, shut.3)

have_both : (xs ys zs : List Exchange) → Have (xs ++ ys) zs → Have xs zs × Have ys zs
have_both xs ys zs have = (subst (λ l. Have l zs) (take-append_seam xs ys) (All-take (Contains zs) (length xs) (xs ++ ys) have), subst (λ l. Have l zs) (drop-append_seam xs ys) (All-drop (Contains zs) (length xs) (xs ++ ys) have))

-- a store that is still is doubted for harm alone
still_harm : {v : View} → IsLawful v → v.IsSettled → v.doubt ≡ v.harm
still_harm law still = (law.rest still).0

-- it rang in what went well, and then for this
pub rings_more : {V : Type 0} (said : V → Option (List ℕ)) (a b c : Alarm V) (P : Type 0) → RingsOnce said a b → RingsFor said b c P → RingsFor said a c P
rings_more said a b c P one (inl once) = inl (rings_then said a b c one once)
rings_more said a b c P one (inr shut) = inr (shut.0, rings_then said a b shut.0 one shut.1, shut.2, shut.3)

pub rings_well : {V : Type 0} (said : V → Option (List ℕ)) (a b : Alarm V) (P : Type 0) → (P → ⊥) → RingsFor said a b P → RingsOnce said a b
rings_well said a b P never (inl once) = once
rings_well said a b P never (inr shut) = absurd (never shut.2)

module _ {S : Type 0} (fails : StoreFault → Type 0) (received written : S → Option (List ℕ)) where
  -- clients are waited for behind rounds
  pub rounds_tend : {w now : World} {h k l : Hall S} {ms : List Marked} → ServesRound fails received written w h k ms now → Tends received written Always 0 0 k l → ServesRound fails received written w h l ms now
  rounds_tend one tends = record {
    exchanged = one.exchanged;
    served = one.served;
    tends = tends_then received written (Have one.exchanged) 0 (length one.exchanged) one.tends tends (λ xs was have. (have, tt)) (omega arith);
  }

  -- rounds behind rounds
  pub rounds_then : {w v now : World} {h k l : Hall S} {ms ns : List Marked} → ServesRound fails received written w h k ms v → ServesRound fails received written v k l ns now → ServesRound fails received written w h l (ms ++ ns) now
  rounds_then one two = record {
    exchanged = one.exchanged ++ two.exchanged;
    served = exchanges-append one.served two.served;
    tends = (let both = length-append one.exchanged two.exchanged in
        tends_then received written (Have (one.exchanged ++ two.exchanged)) 0 (length (one.exchanged ++ two.exchanged)) one.tends two.tends (λ xs was have. have_both one.exchanged two.exchanged xs have) (omega (arith, both)));
  }

  -- nobody is answered
  pub nobody_served : {w : World} {h k : Hall S} → Tends received written Always 0 0 h k → ServesRound fails received written w h k [] w
  nobody_served tends = record { exchanged = []; served = none; tends = tends_as received written (Have []) (λ xs was have. tt) tends }

  -- more doubt is had only by more harm
  pub later_still : {x y z u : View} {p q : List (Option (Token × Caller))} {h k : Hall S} {a : List (Asked S)} {T : Type 0} {settled : Result T StoreFault} → IsLawful x → IsLawful u → Gathers fails received written x y p q h k [] a → Settles y z settled → z.harm ≤ u.harm → x.IsSettled → x.doubt ≤ u.doubt
  later_still first last gathers done lasts still =
      let a = still_harm first still in
      let b = gathers.holds.holds.bides.lasts in
      let c = done.lasts in
      let d = last.deep in
      omega (arith, a, b, c, d, lasts)

  module _ {x y z u : View} (first : IsLawful x) (mid : IsLawful z) (last : IsLawful u) {p q : List (Option (Token × Caller))} (r t : List (Option (Token × Caller))) {h k l : Hall S} {a : List (Asked S)} (w : World) where
    pub round_served : {T : Type 0} (kept : Bool) → RestsKnown x p w → Gathers fails received written x y p q h k [] a → length a ≤ 64
        → (settled : Result T StoreFault) → kept ≡ is_ok settled → Settles y z settled → IfErr settled fails → OnOk settled (r ≡ q) → OnErr settled ((v : World) → Knows v r)
        → Tends received written (λ xs. AreFresh received written a × Have (exchanges kept (came_of a) (held_of a)) xs) 0 0 k l
        → z.harm ≤ u.harm → ((v : World) → u.doubt ≤ 1 → RestsKnown z r v → Leads (λ ms now. (ms ≡ []) × (now ≡ v)) (λ rs now. Moves z u v rs now × Knows now t)) → u.doubt ≤ 1
        → Leads (ServesRound fails received written w h l) (λ rs v. Moves x u w rs v × Knows v t)
    round_served kept rests gathers few settled is done may same anew tends lasts rung low =
        let deep = last.deep in
        let low_mid : z.doubt ≤ 1 = (let harm = still_harm mid done.ends in omega (arith, harm, lasts, deep, low)) in
        let whole : gathers.more ≡ a = sym gathers.items in
        let xs = exchanges kept (came_of a) (held_of a) in
        let each = subst (λ m. HoldsEach fails x y p q (came_of m) (held_of m)) whole gathers.holds in
        let held : length (held_of a) ≤ 64 = (let same = held_length a in omega (arith, same, few)) in
        let done_round = settled_round fails first mid p q r w (came_of a) (held_of a) rests each held settled done may same anew low_mid in
        let moved = done_round.moves in
        let after = rung (world_after w (marked_of done_round.round)) low (rests_on rests.0 moved, done_round.knows_now) in
        let ms = marked_of done_round.round in
        let then = world_after w ms in
        let ns = all_of after.rounds in
        let served : Exchanges fails w xs ms then = subst (λ b. Exchanges fails w (exchanges b (came_of a) (held_of a)) ms then) (sym is) done_round.exchanged in
        let served : Exchanges fails w xs (ms ++ ns) then = subst (λ l. Exchanges fails w xs l then) (sym (append-nil ms) ∙ ap (λ l. ms ++ l) (sym after.holds.0)) served in
        let gone = subst (λ m. Tends received written Always 0 (length m) h k) whole gathers.tends in
        let told = (let long = exchanges_length kept a in tends_then received written (Have xs) 0 (length xs) gone tends (λ ys was have. (tt, (subst (AreFresh received written) whole (gathers.fresh ys was), have))) (omega (arith, long))) in
        record {
          end = after.end;
          rounds = done_round.round ∷ after.rounds;
          holds = record { exchanged = xs; served = subst (Exchanges fails w xs (ms ++ ns)) (sym after.holds.1) served; tends = told };
          moves = (moves_on w then after.end (done_round.round ∷ []) after.rounds moved after.moves.0, after.moves.1);
        }

-- rounds that are served, of whose clients nobody was there before
pub clients_served : {S X E : Type 0} (fails : StoreFault → Type 0) (received written : S → Option (List ℕ)) (w : World) (count : ℕ) (result : Result X E) (h k : Hall S) (ms : List Marked) (now : World)
    → All IsFree h.places → h.taken ≡ 0 → h.count ≡ count → OnOk result (k.taken ≡ count) → ServesRound fails received written w h k ms now → ServesClients fails w count result ms now
clients_served fails received written w count result h k ms now free fresh all_count all served =
    let t = served.tends in
    let takes = t.taken in
    let asks = t.asking in
    let most = t.most (omega (arith, fresh)) in
    let nobody = nobody_asks h.places free in
    record {
      exchanged = served.exchanged;
      served = served.served;
      taken = k.taken;
      some = omega (arith, takes, asks, nobody, fresh);
      most = omega (arith, most, all_count);
      all = all;
      lawful = exchanges_lawful served.served;
    }

-- where a fault came
pub served_not : {X E : Type 0} {fails : StoreFault → Type 0} {w : World} {count : ℕ} {M : List Round → World → Type 0} (served : Result X E) (e : TaskFault) → Leads (ServesClients fails w count served) M → Leads (WorksServe fails w count (Err e)) M
served_not served e led = record {
  end = led.end;
  rounds = led.rounds;
  holds = (record { exchanged = led.holds.exchanged; served = led.holds.served; taken = led.holds.taken; some = led.holds.some; most = led.holds.most; all = tt; lawful = led.holds.lawful }, tt);
  moves = led.moves;
}

pub served_all : {X E : Type 0} {fails : StoreFault → Type 0} {w : World} {count : ℕ} {M : List Round → World → Type 0} (result : Result X E) (done : Done) → IsOk result → IsSaid (served_text count) done → Leads (ServesClients fails w count result) M → Leads (WorksServe fails w count (Ok done)) M
served_all (Ok x) done ok said led = record {
  end = led.end;
  rounds = led.rounds;
  holds = (record { exchanged = led.holds.exchanged; served = led.holds.served; taken = led.holds.taken; some = led.holds.some; most = led.holds.most; all = led.holds.all; lawful = led.holds.lawful }, said);
  moves = led.moves;
}
served_all (Err e) done ok said led = absurd (false≢true ok)

-- nobody was served, and a fault came
pub none_served : {X E : Type 0} {fails : StoreFault → Type 0} {v : View} {w : World} {count : ℕ} (e : E) → RestsAt v w → Leads (ServesClients {X = X} fails w count (Err e)) (Moves v v w)
none_served {fails = fails} {v = v} {w = w} e was = record {
  end = w;
  rounds = [];
  holds = record { exchanged = []; served = none; taken = 0; some = omega arith; most = omega arith; all = tt; lawful = exchanges_lawful {fails = fails} none };
  moves = moves_not was;
}

pub unserved : {fails : StoreFault → Type 0} {v : View} {w : World} {count : ℕ} (e : TaskFault) → RestsAt v w → Leads (WorksServe fails w count (Err e)) (Moves v v w)
unserved e was = served_not {X = Done} (Err e) e (none_served e was)
