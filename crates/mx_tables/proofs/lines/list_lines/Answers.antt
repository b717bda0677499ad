use Rattle.mx_tables.proofs.Common.{Bool, Ok, ◌≡◌, ◌≤◌, ◌<◌, ℕ, [], ◌∷◌, ◌++◌, length, refl, rules, arith, ◌∙◌, Database, state, Holds}
use Rattle.std.proofs.Common.{ap, sym, subst}
use Rattle.std.proofs.ByRecursion.{All-push}
use Rattle.sqlite.specs.Given.{IsPlain}
use Rattle.sqlite.specs.Held.{Held}
use Rattle.sqlite.specs.Listing.{understood}
use Rattle.sqlite.proofs.Callers.{begun_plain}
use Rattle.sqlite_trees.specs.declared.store.Store.{Ghosts}
use Rattle.mx_tables.specs.States.{unsure, IsAwake, IsOurs, Stays}
use Rattle.mx_tables.proofs.StateLemmas.{sound as is_sound, awake, begun_live, sure_in, sure_first, sure_before, stays_then, begun_stays, refused_fails, refused_stays}
use Rattle.mx_tables.proofs.AcceptLemmas.{lines_accepted}
use Rattle.mx_tables.proofs.CallLemmas.{asks_ok, reads_to}
use Rattle.mx_tables.proofs.CauseLemmas.{blames_both, handed, query_told}
use Rattle.mx_tables.proofs.LineLemmas.{no_page, Noted, select_lines, select_lines_is, gives_one, no_more, begins, ended, full_page, last_page}
use Rattle.mx_tables.proofs.ShownLemmas.{line_blamed}
use Rattle.mx_tables.proofs.ToldLemmas.{tell_lines, tells_fault}
use Rattle.mx_tables.proofs.lines.list_lines.Goals as goal

-- after one more row the rows of the tables still stay
stays_on : {S : Type 0} {begun : Bool} (g : Ghosts S) (first before after last : Held S) → Stays begun (state g first) (state g before) → (IsOurs begun (state g before) → Stays begun (state g before) (state g after))
    → after ≡ last → Stays begun (state g first) (state g last)
stays_on g first before after last was step same = rw (← same) (stays_then (state g first) (state g before) (state g after) was (step was.ours))

same_stays : {S : Type 0} {begun : Bool} (g : Ghosts S) (first before last : Held S) → Stays begun (state g first) (state g before) → before ≡ last → Stays begun (state g first) (state g last)
same_stays g first before last was same = rw (← same) was

same_sure : {S : Type 0} (begun : Bool) (g : Ghosts S) (before last : Held S) → before ≡ last → unsure begun (state g last) ≡ 0 → unsure begun (state g before) ≡ 0
same_sure begun g before last same h = rw same h

fewer : (n k m : ℕ) → n ≡ k → k < m → n ≤ m
fewer n k m is below = omega arith

both_ways : (k m : ℕ) → k ≤ m → m ≤ k → k ≡ m
both_ways k m up down = omega arith

pub returns-then-page-gt-MOST_KEPT : goal.returns-then-page-gt-MOST_KEPT
returns-then-page-gt-MOST_KEPT g c = tell_lines g.S.Store _ _ _ (asks_ok g.S.Store (reads_to g.S.Store c.in_ok-find_live.ensures.reads (λ rows holds is valid.
    c.new-lines.ensures.items ∙ sym (no_page c.args.purse.now c.args.page.after c.args.page.most rows valid (omega (arith, c.if-page-gt-MOST_KEPT.true))))))

pub returns-in-Err : goal.returns-in-Err
returns-in-Err g c =
    let stays = λ (begun : Bool) (ours : IsOurs begun (state g.S.Store c.args.conn.now)).
    refused_stays g.S.Store _ _ c.args.conn.now c.query-found.follows.lender-at-none c.query-found.result _ c.in-Err.is select_lines_is.query.silent ours c.query-found.follows.holds-at-none in
    tell_lines g.S.Store _ _ _ (record {
      reads = record { stays = λ ours. stays _ ours; value = λ ours sound kept holds. tt; live = tt };
      cause = λ begun ours calm r holds it.
          let old = state g.S.Store c.args.conn.now in
          let new = state g.S.Store c.query-found.follows.lender-at-none in
          let failed = refused_fails g.S.Store _ _ c.args.conn.now c.query-found.follows.lender-at-none c.query-found.result c.in-Err.error c.in-Err.is c.query-found.follows.holds-at-none (sure_in begun new calm).1 in
          rw c.fault_of.ensures (query_told select_lines _ old new c.in-Err.error select_lines_is.query.plain holds.has.schema
          (rw (c.text.ensures, c.as_str.ensures.text, c.number.ensures) (lines_accepted _ _ _)) (sure_in begun old (sure_first (stays begun ours).later calm)).0 failed);
    })

pub rows-init : goal.rows-init
rows-init g c =
    let made = c.in-Ok.ensures in
    let old = state g.S.Store c.args.conn.now in
    let new = state g.S.Store c.in-Ok.rows.conn.now in (
      refl,
      ap length c.new-lines.ensures.items,
      rw c.new-lines.ensures.items tt,
      λ begun ours. begun_stays g.S.Store select_lines _ c.args.conn.now c.in-Ok.rows.conn.now select_lines_is.query.plain select_lines_is.query.silent ours made.mode made.survives made.begun,
      awake new (λ clean. begun_live g.S.Store select_lines _ c.args.conn.now c.in-Ok.rows.conn.now (made.begun clean)),
      λ begun ours calm.
          let began = begun_stays g.S.Store select_lines _ c.args.conn.now c.in-Ok.rows.conn.now select_lines_is.query.plain select_lines_is.query.silent ours made.mode made.survives made.begun in
          let has = ours.schema (sure_before old new began.lasts (is_sound begun new calm)) in
          let plain = subst (λ s. IsPlain (understood s select_lines)) (sym has) select_lines_is.query.plain in
          ([], rw (c.text.ensures, c.as_str.ensures.text, c.number.ensures) at (begun_plain g.S.Store select_lines _ c.args.conn.now c.in-Ok.rows.conn.now plain (made.begun (sure_in begun new calm).1)).0, rw c.new-lines.ensures.items refl),
    )

pub rows-preserved : goal.rows-preserved
rows-preserved g c =
    let before = c.rows.invariant in
    let made = c.in_ok-line.ensures in
    let mid = state g.S.Store c.rows.rows.conn.now in
    let new = state g.S.Store c.next_line.new.rows.conn.now in
    let pushed : c.push.new.self.items ≡ c.rows.lines.items ++ c.in-Some.line ∷ [] = search rules in (
      made.same_reference ∙ before.0,
      search rules,
      rw pushed (All-push Noted c.rows.lines.items c.in-Some.line before.2 (rw c.in-Some.is at made.valid)),
      λ begun ours. let was = before.3 begun ours in stays_then (state g.S.Store c.args.conn.now) mid new was (made.stays begun was.ours),
      made.live,
      λ begun ours calm.
          let step = made.stays begun (before.3 begun ours).ours in
          let was = before.5 begun ours (sure_first step.later calm) in
          rw pushed (gives_one g.S.Store select_lines _ c.rows.rows.conn.now c.next_line.new.rows.conn.now was.0 was.1 c.rows.lines.items was.2 c.in-Some.line (rw c.in-Some.is at made.shown (is_sound begun new calm))),
    )

pub returns-in_err-line : goal.returns-in_err-line
returns-in_err-line g c = tell_lines g.S.Store _ _ _ (record {
  reads = record {
    stays = λ ours.
        let same : c.next_line.new.rows.conn.now ≡ c.conn-in_err-line-1.given.0 = sym (c.conn-in_err-line-1.given.1 (sym (c.next_line.ensures.same_reference ∙ c.rows.invariant.0 ∙ c.in-Ok.ensures.same_reference)) ∙ c.drop-rows.ensures) in
        stays_on g.S.Store c.args.conn.now c.rows.rows.conn.now c.next_line.new.rows.conn.now c.conn-in_err-line-1.given.0 (c.rows.invariant.3 _ ours) (c.next_line.ensures.stays _) same;
    value = λ ours sound kept holds. search rules;
    live = search rules;
  };
  cause = λ begun ours calm r holds it.
      let same : c.next_line.new.rows.conn.now ≡ c.conn-in_err-line-1.given.0 = sym (c.conn-in_err-line-1.given.1 (sym (c.next_line.ensures.same_reference ∙ c.rows.invariant.0 ∙ c.in-Ok.ensures.same_reference)) ∙ c.drop-rows.ensures) in
      let mid = state g.S.Store c.rows.rows.conn.now in
      let first = c.rows.invariant.3 begun ours in
      let step = c.next_line.ensures.stays begun first.ours in
      let last = same_sure begun g.S.Store c.next_line.new.rows.conn.now c.conn-in_err-line-1.given.0 same calm in
      let early = sure_first step.later last in
      let was = c.rows.invariant.5 begun ours early in
      let before : Holds mid.now r = subst (λ (d : Database). Holds d r) (sym (first.same early)) holds in
      let now : Holds (state g.S.Store c.next_line.new.rows.conn.now).now r = subst (λ (d : Database). Holds d r) (sym (step.same last)) before in
      let blamed = line_blamed r it.0 it.1 c.args.purse.now c.args.page.after g.S.Store c.rows.rows.conn.now c.next_line.new.rows.conn.now was.0 was.1 before now (sure_in begun mid early).0
      c.in_err-line.field-0.0 (c.in_err-line.ensures.fails (is_sound begun (state g.S.Store c.next_line.new.rows.conn.now) last)) in
      let both = blames_both (state g.S.Store c.args.conn.now) mid (state g.S.Store c.next_line.new.rows.conn.now) first.counts first.limit _ blamed in
      handed c.from_residual-in_err-line.result _ _ c.from_residual-in_err-line.ensures.1 (λ e is. rw (is, ← same) both);
})

pub returns-in_default : goal.returns-in_default
returns-in_default g c = tell_lines g.S.Store {r = Ok c.rows.lines} _ _ _ (record {
  reads = record {
    stays = λ ours.
        let same : c.next_line.new.rows.conn.now ≡ c.conn-in_default-1.given.0 = sym (c.conn-in_default-1.given.1 (sym (c.next_line.ensures.same_reference ∙ c.rows.invariant.0 ∙ c.in-Ok.ensures.same_reference)) ∙ c.drop-rows-in_default.ensures) in
        stays_on g.S.Store c.args.conn.now c.rows.rows.conn.now c.next_line.new.rows.conn.now c.conn-in_default-1.given.0 (c.rows.invariant.3 _ ours) (c.next_line.ensures.stays _) same;
    value = λ ours sound kept holds valid.
        let old = state g.S.Store c.args.conn.now in
        let mid = state g.S.Store c.rows.rows.conn.now in
        let new = state g.S.Store c.next_line.new.rows.conn.now in
        let before = c.rows.invariant in
        let made = c.in_ok-line.ensures in
        let first = before.3 _ ours in
        let same : c.next_line.new.rows.conn.now ≡ c.conn-in_default-1.given.0 = sym (c.conn-in_default-1.given.1 (sym (c.next_line.ensures.same_reference ∙ c.rows.invariant.0 ∙ c.in-Ok.ensures.same_reference)) ∙ c.drop-rows-in_default.ensures) in
        let last = same_sure _ g.S.Store c.next_line.new.rows.conn.now c.conn-in_default-1.given.0 same sound in
        let early = sure_first (made.stays _ first.ours).later last in
        let was = before.5 _ ours early in
        let there : Holds mid.now kept = subst (λ (d : Database). Holds d kept) (sym (first.same early)) holds in
        let shown = no_more g.S.Store select_lines _ c.rows.rows.conn.now c.next_line.new.rows.conn.now was.0 was.1 (rw c.in_default.is at made.shown (is_sound _ new last)) in
        let few : length c.rows.lines.items ≤ c.args.page.most = fewer _ _ _ before.1 c.rows-test.true in
        last_page c.args.purse.now c.args.page.after c.args.page.most kept valid was.0 c.rows.lines.items was.2 before.2 few (ended c.args.purse.now c.args.page.after mid new was.0 shown kept there);
    live =
        let same : c.next_line.new.rows.conn.now ≡ c.conn-in_default-1.given.0 = sym (c.conn-in_default-1.given.1 (sym (c.next_line.ensures.same_reference ∙ c.rows.invariant.0 ∙ c.in-Ok.ensures.same_reference)) ∙ c.drop-rows-in_default.ensures) in
        subst (λ h. IsAwake (state g.S.Store h)) same c.in_ok-line.ensures.live;
  };
  cause = λ begun ours calm r holds it. tt;
})

pub returns-then-is_err : goal.returns-then-is_err
returns-then-is_err g c = tell_lines g.S.Store _ _ _ (record {
  reads = record {
    stays = λ ours.
        let same : c.next_line.new.rows.conn.now ≡ c.conn-then-is_err-1.given.0 = sym (c.conn-then-is_err-1.given.1 (sym (c.next_line.ensures.same_reference ∙ c.rows.invariant.0 ∙ c.in-Ok.ensures.same_reference)) ∙ c.drop-rows-then-is_err.ensures) in
        stays_on g.S.Store c.args.conn.now c.rows.rows.conn.now c.next_line.new.rows.conn.now c.conn-then-is_err-1.given.0 (c.rows.invariant.3 _ ours) (c.next_line.ensures.stays _) same;
    value = λ ours sound kept holds. tt;
    live = tt;
  };
  cause = λ begun ours calm r holds it. tt;
})

pub returns : goal.returns
returns g c = tell_lines g.S.Store {r = Ok c.rows.lines} _ _ _ (record {
  reads = record {
    stays = λ ours.
        let same : c.rows.rows.conn.now ≡ c.conn-2-1.given.0 = sym (c.conn-2-1.given.1 (sym (c.rows.invariant.0 ∙ c.in-Ok.ensures.same_reference)) ∙ c.drop-rows-2.ensures) in
        same_stays g.S.Store c.args.conn.now c.rows.rows.conn.now c.conn-2-1.given.0 (c.rows.invariant.3 _ ours) same;
    value = λ ours sound kept holds valid.
        let mid = state g.S.Store c.rows.rows.conn.now in
        let before = c.rows.invariant in
        let same : c.rows.rows.conn.now ≡ c.conn-2-1.given.0 = sym (c.conn-2-1.given.1 (sym (c.rows.invariant.0 ∙ c.in-Ok.ensures.same_reference)) ∙ c.drop-rows-2.ensures) in
        let last = same_sure _ g.S.Store c.rows.rows.conn.now c.conn-2-1.given.0 same sound in
        let was = before.5 _ ours last in
        let there : Holds mid.now kept = subst (λ (d : Database). Holds d kept) (sym ((before.3 _ ours).same last)) holds in
        let all = begins c.args.purse.now c.args.page.after g.S.Store c.rows.rows.conn.now was.0 was.1 kept there in
        let many : length c.rows.lines.items ≡ c.args.page.most = before.1 ∙ both_ways _ _ c.rows.auto.counter-end c.rows-test.false in
        full_page c.args.purse.now c.args.page.after c.args.page.most kept valid was.0 all.0 c.rows.lines.items was.2 before.2 many all.1;
    live =
        let same : c.rows.rows.conn.now ≡ c.conn-2-1.given.0 = sym (c.conn-2-1.given.1 (sym (c.rows.invariant.0 ∙ c.in-Ok.ensures.same_reference)) ∙ c.drop-rows-2.ensures) in
        subst (λ h. IsAwake (state g.S.Store h)) same c.rows.invariant.4;
  };
  cause = λ begun ours calm r holds it. tt;
})

pub returns-in_err-find_live : goal.returns-in_err-find_live
returns-in_err-find_live g c = tells_fault g.S.Store c.in_err-find_live.ensures c.from_residual.ensures.1
