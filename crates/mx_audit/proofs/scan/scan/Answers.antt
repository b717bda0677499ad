use Rattle.std.proofs.Common.{rules, Bool, ℕ, ◌≡◌, List, [], ◌∷◌, ◌++◌, None, Some, Ok, refl, sym, subst, ◌∙◌}
use Rattle.sqlite_value.specs.Order.{Row}
use Rattle.sqlite_trees.specs.declared.store.Store.{Ghosts}
use Rattle.sqlite_schema.specs.declared.schema.Schema.{Schema}
use Rattle.sqlite.specs.Given.{IsPlain, Advances, row_if}
use Rattle.sqlite.specs.Held.{Held, state}
use Rattle.sqlite.specs.Listing.{understood, reads_listing, IsSourceOf}
use Rattle.sqlite.specs.Clock.{timed}
use Rattle.sqlite.specs.Effect.{Database}
use Rattle.sqlite.specs.State.{State, Shown, ShowsRows, IsUnchanged}
use Rattle.sqlite.specs.Values.{bound}
use Rattle.sqlite.proofs.Callers.{begun_plain, unchanged_then}
use Rattle.mx_tables.specs.States.{IsAt}
use Rattle.mx_tables.proofs.StateLemmas.{sound as is_sound, sure_in, sure_first, sure_before, stays_then, begun_stays, refused_stays}
use Rattle.mx_audit.specs.Scans.{ScansAt, TakesAll}
use Rattle.mx_audit.proofs.scan.scan.Goals as goal

-- one row more was taken
one_more : {T : Type 0} (takes : T → Row → T → Type 0) (rows : List Row) (row : Row) (a b c : T) → TakesAll takes a rows b → takes b row c → TakesAll takes a (rows ++ row ∷ []) c
one_more takes [] row a b c all last = (c, subst (λ x. takes x row c) all last, refl)
one_more takes (r ∷ rows) row a b c all last = (all.0, all.1, one_more takes rows row all.0 b c all.2 last)

-- what is shown after no change was shown before it
shown_from : (sql : List ℕ) (params : Row) (old mid new : State) (rows : List Row) → IsPlain (understood mid.now.schema sql) → IsUnchanged old mid → Shown sql params mid new rows → Shown sql params old new rows
unfolding Shown
shown_from sql params old mid new rows plain kept h =
    let none = (subst IsPlain h.1.is plain).0 in
    let full = timed params h.0.formats h.1.now in
    let it = subst (ShowsRows mid new sql h.0 full rows) none h.2 in
    let same = kept.0.now_is in (
      h.0,
      record { is = subst (λ (d : Database). understood d.schema sql ≡ Ok h.0) same h.1.is; whole = h.1.whole; given = h.1.given; now = h.1.now },
      subst (ShowsRows old new sql h.0 full rows) (sym none) (it.0, subst (λ (d : Database). IsSourceOf (reads_listing d.schema sql) d it.0) same it.1, it.2, unchanged_then old mid new kept it.3),
    )

-- the connection is as the rows leave it
at_last : {S T : Type 0} {x : T} {of : Schema} (g : Ghosts S) (old new last : Held S) (did : Held S → Type 0) → ScansAt of g old new (Ok x) (did new) → new ≡ last → ScansAt of g old last (Ok x) (did last)
at_last {x = x} {of = of} g old new last did done same = subst (λ h. ScansAt of g old h (Ok x) (did h)) same done

pub returns-in-Err-clause-scans : goal.returns-in-Err-clause-scans
returns-in-Err-clause-scans g c of plain = record {
  stays = λ ours.
      refused_stays g.S.Store _ _ c.args.conn.now c.query.follows.lender-at-none c.query.result _ c.in-Err.is c.requires ours c.query.follows.holds-at-none;
  value = λ ours calm. tt;
  live = tt;
}

pub loop-init : goal.loop-init
loop-init g c =
    let made = c.in-Ok.ensures in
    let old = state g.S.Store c.args.conn.now in
    let new = state g.S.Store c.in-Ok.rows.conn.now in
    let stays = λ (begun : Bool) (of : Schema) (plain : IsPlain (understood of c.args.sql.now)) (ours : IsAt begun of old). begun_stays g.S.Store c.args.sql.now _ c.args.conn.now c.in-Ok.rows.conn.now plain c.requires ours made.mode made.survives made.begun in (
      refl,
      stays,
      λ begun of plain ours calm.
          let has = ours.schema (sure_before old new (stays begun of plain ours).lasts (is_sound begun new calm)) in
          let first = subst (λ s. IsPlain (understood s c.args.sql.now)) (sym has) plain in
          let began = begun_plain g.S.Store c.args.sql.now _ c.args.conn.now c.in-Ok.rows.conn.now first (made.begun (sure_in begun new calm).1) in
          ([], began.0, began.1, refl),
      refl,
    )

pub loop-preserved : goal.loop-preserved
loop-preserved g c =
    let before = c.loop.invariant in
    let made = c.in_ok-next.ensures in
    let mid = state g.S.Store c.loop.rows.conn.now in
    let new = state g.S.Store c.next.new.rows.conn.now in (
      made.same_reference ∙ before.0,
      λ begun of plain ours. let was = before.1 begun of plain ours in stays_then (state g.S.Store c.args.conn.now) mid new was (made.stays begun of was.ours),
      λ begun of plain ours calm.
          let step = made.stays begun of (before.1 begun of plain ours).ours in
          let was = before.2 begun of plain ours (sure_first step.later calm) in
          let row : Some c.in-Some.row.now ≡ row_if c.next.new.rows.has_row c.next.new.rows.conn.now = rw c.in-Some.is at c.get.ensures in
          let gives : Advances g.S.Store c.loop.rows.conn.now c.next.new.rows.conn.now (Some c.in-Some.row.now) = rw (sym row) at made.shown (is_sound begun new calm) in
          (was.0 ++ c.in-Some.row.now ∷ [], gives c.args.sql.now (bound c.args.params.now) was.0 was.1, unchanged_then _ mid new was.2 (made.same (is_sound begun new calm)), one_more g.T.Takes.takes was.0 c.in-Some.row.now _ c.loop.taker _ was.3 c.in_ok-take.ensures.takes),
      c.take.ensures.lends ∙ before.3,
    )

pub returns-in_default-clause-scans : goal.returns-in_default-clause-scans
returns-in_default-clause-scans g c of plain =
    let before = c.loop.invariant in
    let made = c.in_ok-next.ensures in
    let old = state g.S.Store c.args.conn.now in
    let mid = state g.S.Store c.loop.rows.conn.now in
    let new = state g.S.Store c.next.new.rows.conn.now in
    at_last g.S.Store c.args.conn.now c.next.new.rows.conn.now _ (λ h. (rows : List Row) × Shown c.args.sql.now (bound c.args.params.now) old (state g.S.Store h) rows × TakesAll g.T.Takes.takes c.args.taker.now rows c.loop.taker) (record {
      stays = λ ours. let was = before.1 _ of plain ours in stays_then old mid new was (made.stays _ of was.ours);
      value = λ {begun} ours calm.
          let first = before.1 begun of plain ours in
          let early = sure_first (made.stays begun of first.ours).later calm in
          let was = before.2 begun of plain ours early in
          let end : None ≡ row_if c.next.new.rows.has_row c.next.new.rows.conn.now = rw c.in_default.is at c.get.ensures in
          let ends : Advances g.S.Store c.loop.rows.conn.now c.next.new.rows.conn.now None = rw (sym end) at made.shown (is_sound begun new calm) in
          let has = first.ours.schema (is_sound begun mid early) in
          let last = subst (λ s. IsPlain (understood s c.args.sql.now)) (sym has) plain in
          (was.0, shown_from c.args.sql.now (bound c.args.params.now) old mid new was.0 last was.2 (ends c.args.sql.now (bound c.args.params.now) was.0 was.1), was.3);
      live = made.live;
    }) (search rules)
