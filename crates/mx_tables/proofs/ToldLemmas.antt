-- What is read of the rows is so of the World that they spell.
use Rattle.mx_tables.proofs.Common.{◌≡◌, ℕ, Option, ◌∙◌, IfOk-weaker, Name, Rows}
use Rattle.std.proofs.Common.{Err, Result}
use Rattle.std.specs.Prelude.{IsErrAnd}
use Rattle.std.specs.declared.vec.Vec.{Vec}
use Rattle.sqlite_trees.specs.declared.store.Store.{Ghosts}
use Rattle.sqlite.specs.Held.{Held}
use Rattle.mx_pay.specs.Log.{Entries}
use Rattle.mx_purse.specs.declared.message.Message.{Message}
use Rattle.mx_book.specs.World.{World, Token}
use Rattle.mx_book.specs.Spells as book
use Rattle.mx_book.specs.Reads.{who_of, members_of, purse_names_of, account_of, inbox_of, lines_of, tray_of, load_of}
use Rattle.mx_book.specs.RowReads.{row_who_of, row_members_of, row_purse_names_of, row_account_of, row_inbox_of, row_lines_of, row_load_of}
use Rattle.mx_book.specs.Totals.{totals_of, member_totals_of, members_totals_of}
use Rattle.mx_book.specs.RowEdits.{row_tray_of}
use Rattle.mx_book.specs.RowTotals.{row_totals_of, row_member_totals_of, row_members_totals_of}
use Rattle.mx_book.specs.declared.contract.StoreFault.{StoreFault}
use Rattle.mx_book.specs.declared.values.Caller.{Caller}
use Rattle.mx_book.specs.declared.values.Account as given
use Rattle.mx_book.specs.declared.values.Line.{Line}
use Rattle.mx_book.specs.declared.values.Totals.{Totals}
use Rattle.mx_book.specs.declared.values.MemberTotals.{MemberTotals}
use Rattle.mx_book.proofs.SpellLemmas as spell
use Rattle.mx_tables.specs.Answers.{ArePurses, AreMessages}
use Rattle.mx_tables.specs.Pages.{AreLines}
use Rattle.mx_tables.specs.Results.{AreDetails, AreEntries}
use Rattle.mx_tables.specs.States.{Asks, Tells}
use Rattle.mx_tables.proofs.CallLemmas.{asks_fault}
use Rattle.mx_tables.proofs.SoundLemmas.{messages_valid, purses_valid, lines_valid, entries_valid, tray_valid, tray_as}

module _ {S : Type 0} (g : Ghosts S) {old new : Held S} where
  tell : {T : Type 0} {r : Result T StoreFault} {is : Rows → T → Type 0} {says : World → T → Type 0}
      → ((rows : Rows) (w : World) → book.Spells rows w → (x : T) → is rows x → says w x) → Asks g old new r is → Tells g old new r says
  tell {r = r} f h = record {
    stays = h.reads.stays;
    value = λ ours w calm one.
        IfOk-weaker r _ _ (f one.spelled.rows w one.spelled.spells) (h.reads.value ours calm one.spelled.rows one.spelled.holds);
    live = h.reads.live;
    cause = h.cause;
  }

  -- a fault after a read
  pub tells_fault : {T U : Type 0} {f : StoreFault} {r : Result U StoreFault} {is : Rows → T → Type 0} {says : World → U → Type 0}
      → Asks g old new (Err f) is → IsErrAnd r (λ e. e ≡ f) → Tells g old new r says
  tells_fault {U = U} h fault = tell {is = λ rows (x : U). ⊥} (λ rows w s x never. absurd never) (asks_fault g h fault)

  -- ---- one value, or none

  pub tell_caller : {r : Result (Option Caller) StoreFault} (t : Token)
      → Asks g old new r (λ rows v. v ≡ row_who_of rows t) → Tells g old new r (λ w v. v ≡ who_of w t)
  tell_caller t = tell (λ rows w s v is. is ∙ spell.who_at rows w t s)

  pub tell_account : {r : Result (Option given.Account) StoreFault} (p : Name)
      → Asks g old new r (λ rows v. ArePurses rows → v ≡ row_account_of rows p) → Tells g old new r (λ w v. v ≡ account_of w p)
  tell_account p = tell (λ rows w s v is. is (purses_valid rows w s) ∙ spell.account_at rows w p s)

  pub tell_load : {r : Result (Option ℕ) StoreFault} (p ref : Name)
      → Asks g old new r (λ rows v. v ≡ row_load_of rows p ref) → Tells g old new r (λ w v. v ≡ load_of w p ref)
  tell_load p ref = tell (λ rows w s v is. is ∙ spell.load_at rows w p ref s)

  pub tell_tray : {r : Result Entries StoreFault} (p : Name)
      → Asks g old new r (λ rows log. AreDetails rows.tray → log ≡ row_tray_of rows p) → Tells g old new r (λ w log. log ≡ tray_of w p)
  tell_tray p = tell (λ rows w s log is. is (tray_valid rows w s) ∙ tray_as rows w s p)

  pub tell_totals : {r : Result Totals StoreFault}
      → Asks g old new r (λ rows v. ArePurses rows → AreEntries rows → v ≡ row_totals_of rows) → Tells g old new r (λ w v. v ≡ totals_of w)
  tell_totals = tell (λ rows w s v is. is (purses_valid rows w s) (entries_valid rows w s) ∙ spell.totals_at rows w s)

  pub tell_member_totals : {r : Result (Option MemberTotals) StoreFault} (m : Name)
      → Asks g old new r (λ rows v. ArePurses rows → AreEntries rows → v ≡ row_member_totals_of rows m) → Tells g old new r (λ w v. v ≡ member_totals_of w m)
  tell_member_totals m = tell (λ rows w s v is. is (purses_valid rows w s) (entries_valid rows w s) ∙ spell.member_totals_at rows w m s)

  -- ---- lists

  module _ {Z : Type 0} where
    pub tell_purses : {r : Result (Vec Name Z) StoreFault}
        → Asks g old new r (λ rows v. v.items ≡ row_purse_names_of rows) → Tells g old new r (λ w v. v.items ≡ purse_names_of w)
    tell_purses = tell (λ rows w s v is. is ∙ spell.purse_names_at rows w s)

    pub tell_members : {r : Result (Vec Name Z) StoreFault}
        → Asks g old new r (λ rows v. v.items ≡ row_members_of rows) → Tells g old new r (λ w v. v.items ≡ members_of w)
    tell_members = tell (λ rows w s v is. is ∙ spell.members_at rows w s)

    pub tell_inbox : {r : Result (Vec (ℕ × Message) Z) StoreFault} (p : Name)
        → Asks g old new r (λ rows v. AreMessages rows → v.items ≡ row_inbox_of rows p) → Tells g old new r (λ w v. v.items ≡ inbox_of w p)
    tell_inbox p = tell (λ rows w s v is. is (messages_valid rows w s) ∙ spell.inbox_at rows w p s)

    pub tell_lines : {r : Result (Vec Line Z) StoreFault} (p : Name) (after most : ℕ)
        → Asks g old new r (λ rows v. AreLines rows → v.items ≡ row_lines_of rows p after most) → Tells g old new r (λ w v. v.items ≡ lines_of w p after most)
    tell_lines p after most = tell (λ rows w s v is. is (lines_valid rows w s) ∙ spell.lines_at rows w p after most s)

    pub tell_members_totals : {r : Result (Vec (Name × MemberTotals) Z) StoreFault}
        → Asks g old new r (λ rows v. v.items ≡ row_members_totals_of rows) → Tells g old new r (λ w v. v.items ≡ members_totals_of w)
    tell_members_totals = tell (λ rows w s v is. is ∙ spell.members_totals_at rows w s)
