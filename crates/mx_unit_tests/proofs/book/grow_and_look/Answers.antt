use Rattle.std.proofs.Common.{◌≡◌, false, [], ◌∷◌, sym, subst, arith}
use Rattle.std.specs.Prelude.{IsTrue}
use Rattle.std.specs.FinMap as fmap
use Rattle.mx_pay.specs.Names.{is_name_text}
use Rattle.mx_pay.specs.Tokens.{is_token, IsToken}
use Rattle.mx_book.specs.declared.edits.Edit.TheVariants.{NewMember, NewHolder}
use Rattle.mx_book.specs.Edits.{edited, Suits, Fits}
use Rattle.mx_book.specs.World.{World, Name, Token, opening}
use Rattle.mx_book.proofs.KeepLemmas.{member_stays, holder_stays}
use Rattle.mx_book.proofs.NameLemmas.{names_total, name_itself}
use Rattle.mx_book.proofs.Opening.{opening_is}
use Rattle.mx_unit_tests.proofs.book.grow_and_look.Goals as goal

-- a member and a holder more fit a new book
both_fit : (op s t : Token) (m h : Name) → is_token s op ≡ false → is_token t op ≡ false → is_token t s ≡ false → IsTrue (is_name_text m) → IsTrue (is_name_text h) → IsToken op → IsToken s → IsToken t → Fits (opening op) (NewMember m s ∷ NewHolder h m t ∷ [])
both_fit op s t m h clerk holder apart member_text holder_text op_whole clerk_whole holder_whole =
    let member : Suits (opening op) (NewMember m s) = grind (arith, clerk, fmap.gets) in
    let with_member : World = edited (opening op) (NewMember m s) in
    let both : Suits with_member (NewHolder h m t) = grind (arith, holder, apart, fmap.gets, names_total, name_itself m) in
    record {
      each = (member, (both, tt));
      end = holder_stays with_member h m t both holder_text holder_whole (member_stays (opening op) m s member member_text clerk_whole (opening_is op op_whole));
    }

pub apply-added-requires : goal.apply-added-requires
apply-added-requires c sure =
    let tokens = c.args.first.now.tokens in
    let names = c.args.first.now.names in
    subst (λ (w : World). Fits w (NewMember names.member tokens.clerk ∷ NewHolder names.holder names.member tokens.holder ∷ [])) (sym c.new_book-book.ensures.world)
    (both_fit tokens.operator tokens.clerk tokens.holder names.member names.holder tokens.clerk_apart tokens.holder_apart tokens.two_apart names.member_text names.holder_text tokens.operator_bytes tokens.clerk_bytes tokens.holder_bytes)
