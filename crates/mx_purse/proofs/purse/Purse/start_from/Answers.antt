use Rattle.std.proofs.Common.{◌≡◌, ◌≤◌, ◌<◌, Ok, None, ap, subst, sym, ◌∙◌, arith}
use Rattle.std.specs.Prelude.{is_some, IsNone, ◌↔◌}
use Rattle.mx_pay.specs.Details.{Details, IsDetails}
use Rattle.mx_purse.specs.State.{State, IsPurse}
use Rattle.mx_purse.specs.declared.status.Status.TheVariants.{Epr}
use Rattle.mx_purse.specs.Operations.{started, start_from_refusal, from_details}
use Rattle.mx_purse.proofs.OperationLemmas.{started_from_is, from_same, from_little, from_rest, names_apart, refused, kept, accepted, moved}
use Rattle.mx_purse.proofs.purse.Purse.start_from.Goals as goal

pub returns-in_default-clause-answer : goal.returns-in_default-clause-answer
returns-in_default-clause-answer c =
    refused (start_from_refusal c.args.self.now c.args.peer c.args.value) _ _
    (from_same c.args.self.now c.args.peer c.args.value (sym (ap (λ (q : State). q.name) c.self.view_is) ∙ c.new.ensures.none.0 (ap is_some c.in_default.is)))

pub returns-in_default-clause-new : goal.returns-in_default-clause-new
returns-in_default-clause-new c =
    kept (start_from_refusal c.args.self.now c.args.peer c.args.value) _ _ _
    (from_same c.args.self.now c.args.peer c.args.value (sym (ap (λ (q : State). q.name) c.self.view_is) ∙ c.new.ensures.none.0 (ap is_some c.in_default.is)))

pub returns-then-self-get-clause-answer : goal.returns-then-self-get-clause-answer
returns-then-self-get-clause-answer c =
    let apart = names_apart _ _ (subst (λ (q : State). IsNone c.new.result ↔ (q.name ≡ c.args.peer)) c.self.view_is c.new.ensures.none) c.in-Some.is in
    let less : c.args.self.now.balance < c.args.value = let b = ap (λ (q : State). q.balance) c.self.view_is in omega (arith, b, c.get.ensures.value) in
    refused (start_from_refusal c.args.self.now c.args.peer c.args.value) _ _ (from_little c.args.self.now c.args.peer c.args.value apart less)

pub returns-in-Some-start_worn-clause-answer : goal.returns-in-Some-start_worn-clause-answer
returns-in-Some-start_worn-clause-answer c =
    let apart = names_apart _ _ (subst (λ (q : State). IsNone c.new.result ↔ (q.name ≡ c.args.peer)) c.self.view_is c.new.ensures.none) c.in-Some.is in
    let enough : c.args.value ≤ c.args.self.now.balance = let b = ap (λ (q : State). q.balance) c.self.view_is in omega (arith, b, c.get.ensures.value) in
    refused (start_from_refusal c.args.self.now c.args.peer c.args.value) _ _
    (from_rest c.args.self.now c.args.peer c.args.value apart enough ∙ sym c.start_worn.ensures ∙ c.in-Some-start_worn.is)

pub begin-requires-clause-whole : goal.begin-requires-clause-whole
begin-requires-clause-whole c =
    let apart = names_apart _ _ (subst (λ (q : State). IsNone c.new.result ↔ (q.name ≡ c.args.peer)) c.self.view_is c.new.ensures.none) c.in-Some.is in
    let enough : c.args.value ≤ c.args.self.now.balance = let b = ap (λ (q : State). q.balance) c.self.view_is in omega (arith, b, c.get.ensures.value) in
    let made : c.in-Some.details ≡ from_details c.args.self.now c.args.peer c.args.value c.args.seq = c.in-Some.ensures.new ∙ ap (λ (q : State). from_details q c.args.peer c.args.value c.args.seq) c.self.view_is in
    let free : start_from_refusal c.args.self.now c.args.peer c.args.value ≡ None = from_rest c.args.self.now c.args.peer c.args.value apart enough ∙ sym c.start_worn.ensures ∙ c.in_default-start_worn.is in
    subst (λ (d : Details). IsPurse (started c.args.self.now (Epr d))) (sym made)
    (started_from_is c.args.self.now c.args.peer c.args.value c.args.seq (subst IsPurse c.self.view_is c.self.invariant) (subst IsDetails made c.in-Some.ensures.valid) free)

pub returns-clause-answer : goal.returns-clause-answer
returns-clause-answer c =
    let apart = names_apart _ _ (subst (λ (q : State). IsNone c.new.result ↔ (q.name ≡ c.args.peer)) c.self.view_is c.new.ensures.none) c.in-Some.is in
    let enough : c.args.value ≤ c.args.self.now.balance = let b = ap (λ (q : State). q.balance) c.self.view_is in omega (arith, b, c.get.ensures.value) in
    let made : c.in-Some.details ≡ from_details c.args.self.now c.args.peer c.args.value c.args.seq = c.in-Some.ensures.new ∙ ap (λ (q : State). from_details q c.args.peer c.args.value c.args.seq) c.self.view_is in
    let free : start_from_refusal c.args.self.now c.args.peer c.args.value ≡ None = from_rest c.args.self.now c.args.peer c.args.value apart enough ∙ sym c.start_worn.ensures ∙ c.in_default-start_worn.is in
    ap Ok made ∙ accepted (start_from_refusal c.args.self.now c.args.peer c.args.value) _ free

pub returns-clause-new : goal.returns-clause-new
returns-clause-new c =
    let apart = names_apart _ _ (subst (λ (q : State). IsNone c.new.result ↔ (q.name ≡ c.args.peer)) c.self.view_is c.new.ensures.none) c.in-Some.is in
    let enough : c.args.value ≤ c.args.self.now.balance = let b = ap (λ (q : State). q.balance) c.self.view_is in omega (arith, b, c.get.ensures.value) in
    let made : c.in-Some.details ≡ from_details c.args.self.now c.args.peer c.args.value c.args.seq = c.in-Some.ensures.new ∙ ap (λ (q : State). from_details q c.args.peer c.args.value c.args.seq) c.self.view_is in
    let free : start_from_refusal c.args.self.now c.args.peer c.args.value ≡ None = from_rest c.args.self.now c.args.peer c.args.value apart enough ∙ sym c.start_worn.ensures ∙ c.in_default-start_worn.is in
    c.begin.ensures.new ∙ ap (λ (d : Details). started c.args.self.now (Epr d)) made
    ∙ moved (start_from_refusal c.args.self.now c.args.peer c.args.value) c.args.self.now _ free
