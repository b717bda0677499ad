use Rattle.std.proofs.Common.{◌≡◌, Ok, None, ap, subst, sym, ◌∙◌}
use Rattle.std.specs.Prelude.{is_some, IsNone, ◌↔◌}
use Rattle.mx_pay.specs.Details.{Details, IsDetails}
use Rattle.mx_purse.specs.State.{State, IsPurse}
use Rattle.mx_purse.specs.declared.status.Status.TheVariants.{Epv}
use Rattle.mx_purse.specs.Operations.{started, start_to_refusal, to_details}
use Rattle.mx_purse.proofs.OperationLemmas.{started_to_is, to_same, to_rest, names_apart, refused, kept, accepted, moved}
use Rattle.mx_purse.proofs.purse.Purse.start_to.Goals as goal

pub returns-in_default-clause-answer : goal.returns-in_default-clause-answer
returns-in_default-clause-answer c =
    refused (start_to_refusal c.args.self.now c.args.peer) _ _
    (to_same c.args.self.now c.args.peer (sym (c.new.ensures.none.0 (ap is_some c.in_default.is) ∙ ap (λ (q : State). q.name) c.self.view_is)))

pub returns-in_default-clause-new : goal.returns-in_default-clause-new
returns-in_default-clause-new c =
    kept (start_to_refusal c.args.self.now c.args.peer) _ _ _
    (to_same c.args.self.now c.args.peer (sym (c.new.ensures.none.0 (ap is_some c.in_default.is) ∙ ap (λ (q : State). q.name) c.self.view_is)))

pub returns-in-Some-start_worn-clause-answer : goal.returns-in-Some-start_worn-clause-answer
returns-in-Some-start_worn-clause-answer c =
    let other = names_apart _ _ (subst (λ (q : State). IsNone c.new.result ↔ (c.args.peer ≡ q.name)) c.self.view_is c.new.ensures.none) c.in-Some.is in
    let apart : c.args.self.now.name ≡ c.args.peer → ⊥ = λ e. other (sym e) in
    refused (start_to_refusal c.args.self.now c.args.peer) _ _ (to_rest c.args.self.now c.args.peer apart ∙ sym c.start_worn.ensures ∙ c.in-Some-start_worn.is)

pub begin-requires-clause-whole : goal.begin-requires-clause-whole
begin-requires-clause-whole c =
    let other = names_apart _ _ (subst (λ (q : State). IsNone c.new.result ↔ (c.args.peer ≡ q.name)) c.self.view_is c.new.ensures.none) c.in-Some.is in
    let apart : c.args.self.now.name ≡ c.args.peer → ⊥ = λ e. other (sym e) in
    let made : c.in-Some.details ≡ to_details c.args.self.now c.args.peer c.args.value c.args.seq = c.in-Some.ensures.new ∙ ap (λ (q : State). to_details q c.args.peer c.args.value c.args.seq) c.self.view_is in
    let free : start_to_refusal c.args.self.now c.args.peer ≡ None = to_rest c.args.self.now c.args.peer apart ∙ sym c.start_worn.ensures ∙ c.in_default-start_worn.is in
    subst (λ (d : Details). IsPurse (started c.args.self.now (Epv d))) (sym made)
    (started_to_is c.args.self.now c.args.peer c.args.value c.args.seq (subst IsPurse c.self.view_is c.self.invariant) (subst IsDetails made c.in-Some.ensures.valid) free)

pub returns-clause-answer : goal.returns-clause-answer
returns-clause-answer c =
    let other = names_apart _ _ (subst (λ (q : State). IsNone c.new.result ↔ (c.args.peer ≡ q.name)) c.self.view_is c.new.ensures.none) c.in-Some.is in
    let apart : c.args.self.now.name ≡ c.args.peer → ⊥ = λ e. other (sym e) in
    let made : c.in-Some.details ≡ to_details c.args.self.now c.args.peer c.args.value c.args.seq = c.in-Some.ensures.new ∙ ap (λ (q : State). to_details q c.args.peer c.args.value c.args.seq) c.self.view_is in
    let free : start_to_refusal c.args.self.now c.args.peer ≡ None = to_rest c.args.self.now c.args.peer apart ∙ sym c.start_worn.ensures ∙ c.in_default-start_worn.is in
    ap Ok made ∙ accepted (start_to_refusal c.args.self.now c.args.peer) _ free

pub returns-clause-new : goal.returns-clause-new
returns-clause-new c =
    let other = names_apart _ _ (subst (λ (q : State). IsNone c.new.result ↔ (c.args.peer ≡ q.name)) c.self.view_is c.new.ensures.none) c.in-Some.is in
    let apart : c.args.self.now.name ≡ c.args.peer → ⊥ = λ e. other (sym e) in
    let made : c.in-Some.details ≡ to_details c.args.self.now c.args.peer c.args.value c.args.seq = c.in-Some.ensures.new ∙ ap (λ (q : State). to_details q c.args.peer c.args.value c.args.seq) c.self.view_is in
    let free : start_to_refusal c.args.self.now c.args.peer ≡ None = to_rest c.args.self.now c.args.peer apart ∙ sym c.start_worn.ensures ∙ c.in_default-start_worn.is in
    c.begin.ensures.new ∙ ap (λ (d : Details). started c.args.self.now (Epv d)) made
    ∙ moved (start_to_refusal c.args.self.now c.args.peer) c.args.self.now _ free
