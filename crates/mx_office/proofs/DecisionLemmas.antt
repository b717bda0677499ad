-- What the call of one command tells gives what a decision on it does.
use Rattle.std.proofs.Common.{◌≡◌, ◌⊎◌, inr, true, false, [], refl, sym, subst, Result, Ok, Err, OnOk, IfErr, IsTrue}
use Rattle.std.proofs.lemmas.Result.{IfOk-weaker, IfErr-weaker}
use Rattle.mx_book.specs.World.{World}
use Rattle.mx_book.specs.declared.contract.StoreFault.{StoreFault}
use Rattle.mx_book.specs.declared.contract.StoreFault.TheVariants.{Memory}
use Rattle.mx_book.specs.declared.values.Caller.{Caller}
use Rattle.mx_office.specs.Calls.{TellsOf}
use Rattle.mx_book.specs.Views.{View, Answers}
use Rattle.mx_command.specs.Commands.{IsCommand}
use Rattle.mx_office.specs.Decides.{Decides}
use Rattle.mx_office.specs.Faults.{FailsFor, is_read, lists, makes_edits, reads_list}
use Rattle.mx_office.specs.Step.{base}
use Rattle.mx_command.specs.declared.values.Command.{Command}
use Rattle.mx_office.specs.declared.values.Decided.{Decided}
use Rattle.mx_office.proofs.FaultLemmas.{memory_fails}

on_ok_always : {T E X : Type 0} (r : Result T E) → X → OnOk r X
on_ok_always (Ok x) it = it
on_ok_always (Err e) it = tt

-- a call that always reads a list
pub list_fails : {T : Type 0} (fails : StoreFault → Type 0) (r : Result T StoreFault) → IfErr r (λ e. (e ≡ Memory) ⊎ fails e) → IfErr r (FailsFor fails true)
list_fails fails r fault = IfErr-weaker r _ _ (λ e why. memory_fails fails true e refl why) fault

module _ {T : Type 0} {fails : StoreFault → Type 0} {old new : View} {r : Result T StoreFault} {caller : Caller} {d : Decided} where
  pub of_command : {x command : Command} → command ≡ x → TellsOf fails old new r caller x d → TellsOf fails old new r caller command d
  of_command is told = subst (λ k. TellsOf fails old new r caller k d) (sym is) told

  -- a command that reads no list, and makes edits unless it is idle
  pub tells_write : (x : Command) {said : World → T → Type 0} → is_read x ≡ false → Answers fails old new r said → ((w : World) (t : T) → said w t → IsCommand x → Decides w (base w caller x) d)
      → ((w : World) (t : T) → said w t → makes_edits w x ≡ false → d.edits ≡ []) → TellsOf fails old new r caller x d
  tells_write x is t says idle = record {
    keeps = t.keeps;
    decides = λ valid sure. IfOk-weaker r _ _ (λ y so. says old.world y so valid) (t.value sure);
    reads = on_ok_always r (λ read. absurd (cc (read, is)));
    edits = λ sure. IfOk-weaker r _ _ (λ y so none. idle old.world y so none) (t.value sure);
    fault = IfErr-weaker r _ _ (λ e why. inr why) t.fault;
    memory = λ sure. IfErr-weaker r _ _ (λ e why. inr why) t.fault;
    cause = t.cause;
  }

  -- a command that only reads
  pub tells_read : (x : Command) {said : World → T → Type 0} → Answers fails old new r said → ((w : World) (t : T) → said w t → IsCommand x → Decides w (base w caller x) d) → OnOk r (d.edits ≡ []) → TellsOf fails old new r caller x d
  tells_read x t says none = record {
    keeps = t.keeps;
    decides = λ valid sure. IfOk-weaker r _ _ (λ y so. says old.world y so valid) (t.value sure);
    reads = IfOk-weaker r _ _ (λ _ same _. same) none;
    edits = λ sure. IfOk-weaker r _ _ (λ _ same _. same) none;
    fault = IfErr-weaker r _ _ (λ e why. inr why) t.fault;
    memory = λ sure. IfErr-weaker r _ _ (λ e why. inr why) t.fault;
    cause = t.cause;
  }

  -- a command that reads a list, and makes edits
  pub tells_list : (x : Command) {said : World → T → Type 0} → IsTrue (reads_list x) → is_read x ≡ false → ((w : World) → makes_edits w x ≡ true) → Answers (λ e. (e ≡ Memory) ⊎ fails e) old new r said
      → ((w : World) (t : T) → said w t → IsCommand x → Decides w (base w caller x) d) → (new.doubt ≡ 0 → IfErr r (FailsFor fails (lists old.world caller x)))
      → TellsOf fails old new r caller x d
  tells_list x is no_read makes t says memory = record {
    keeps = t.keeps;
    decides = λ valid sure. IfOk-weaker r _ _ (λ y so. says old.world y so valid) (t.value sure);
    reads = on_ok_always r (λ read. absurd (cc (read, no_read)));
    edits = λ sure. on_ok_always r (λ none. absurd (cc (none, makes old.world)));
    fault = IfErr-weaker r _ _ (λ e why. memory_fails fails (reads_list x) e is why) t.fault;
    memory = memory;
    cause = t.cause;
  }

  -- a command that reads a list alone
  pub tells_listed : (x : Command) {said : World → T → Type 0} → IsTrue (reads_list x) → Answers (λ e. (e ≡ Memory) ⊎ fails e) old new r said
      → ((w : World) (t : T) → said w t → IsCommand x → Decides w (base w caller x) d) → OnOk r (d.edits ≡ []) → (new.doubt ≡ 0 → IfErr r (FailsFor fails (lists old.world caller x)))
      → TellsOf fails old new r caller x d
  tells_listed x is t says none memory = record {
    keeps = t.keeps;
    decides = λ valid sure. IfOk-weaker r _ _ (λ y so. says old.world y so valid) (t.value sure);
    reads = IfOk-weaker r _ _ (λ _ same _. same) none;
    edits = λ sure. IfOk-weaker r _ _ (λ _ same _. same) none;
    fault = IfErr-weaker r _ _ (λ e why. memory_fails fails (reads_list x) e is why) t.fault;
    memory = memory;
    cause = t.cause;
  }
