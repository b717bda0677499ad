-- Worlds, the parts of which tell them apart.
use Rattle.std.specs.Prelude.{ℕ, List, refl}
use Rattle.std.specs.Coded.{Coded, Coded-set, code_by, coded×, coded_ℕ, coded_list}
use Rattle.std.specs.Ordering.{nat_cmp}
use Rattle.std.specs.FinMap as fmap
use Rattle.std.specs.FinSet as fset
use Rattle.std.specs.FinSet.{FinSet}
use Rattle.mx_pay.specs.Details.{coded_details}
use Rattle.mx_pay.specs.Log.{Entries, coded_entries}
use Rattle.mx_pay.specs.Names.{name_cmp}
use Rattle.mx_pay.specs.Tokens.{token_cmp}
use Rattle.mx_purse.specs.State.{State, coded_state}
use Rattle.mx_purse.specs.contracts.message.Message as message
use Rattle.mx_purse.specs.declared.message.Message.{Message}
use Rattle.mx_book.specs.contracts.values.Caller as caller
use Rattle.mx_book.specs.contracts.values.Line as line
use Rattle.mx_book.specs.contracts.values.MemberRow as member
use Rattle.mx_book.specs.declared.values.Caller.{Caller}
use Rattle.mx_book.specs.declared.values.Line.{Line}
use Rattle.mx_book.specs.declared.values.MemberRow.{MemberRow}
use Rattle.mx_book.specs.World.{World, Row, Holding, Name, Token, result_cmp}

abbrev pub coded_name : Coded Name
coded_name = coded_list coded_ℕ

-- what is a holder's own of a purse as the tuple of its parts
abbrev pub coded_holding : Coded Holding
coded_holding =
    code_by (State × (fmap.FinMap nat_cmp Message × (ℕ × (List Line × fmap.FinMap name_cmp ℕ))))
    (coded× coded_state (coded× (fmap.code coded_ℕ (message.the_row).coded) (coded× coded_ℕ (coded× (coded_list (line.the_row).coded) (fmap.code coded_name coded_ℕ)))))
    (λ h. (h.purse, (h.inbox, (h.next_message, (h.lines, h.redemptions)))))
    (λ t. record { purse = t.0; inbox = t.1.0; next_message = t.1.1.0; lines = t.1.1.1.0; redemptions = t.1.1.1.1 })
    (λ _. refl)

-- and a row
abbrev pub coded_row : Coded Row
coded_row =
    code_by (Name × (Holding × (fmap.FinMap name_cmp ℕ × FinSet name_cmp)))
    (coded× coded_name (coded× coded_holding (coded× (fmap.code coded_name coded_ℕ) (fset.code coded_name))))
    (λ r. (r.holder, (r.holding, (r.loads, r.collected))))
    (λ t. record { holder = t.0; holding = t.1.0; loads = t.1.1.0; collected = t.1.1.1 })
    (λ _. refl)

-- and a World
abbrev pub coded_world : Coded World
coded_world =
    code_by (Token × (fmap.FinMap token_cmp Caller × (fmap.FinMap name_cmp MemberRow × (fmap.FinMap name_cmp Name × (fmap.FinMap name_cmp Row × (FinSet result_cmp × (FinSet result_cmp × Entries)))))))
    (coded× coded_name (coded× (fmap.code coded_name (caller.the_row).coded) (coded× (fmap.code coded_name (member.the_row).coded) (coded× (fmap.code coded_name coded_name)
    (coded× (fmap.code coded_name coded_row) (coded× (fset.code (coded× coded_name coded_details)) (coded× (fset.code (coded× coded_name coded_details)) coded_entries)))))))
    (λ w. (w.operator, (w.tokens, (w.members, (w.holders, (w.rows, (w.tray, (w.archive, w.settled))))))))
    (λ t. record { operator = t.0; tokens = t.1.0; members = t.1.1.0; holders = t.1.1.1.0; rows = t.1.1.1.1.0; tray = t.1.1.1.1.1.0; archive = t.1.1.1.1.1.1.0; settled = t.1.1.1.1.1.1.1 })
    (λ _. refl)

-- Worlds are equal in one way at most
pub world_set : IsSet World
world_set = Coded-set coded_world
