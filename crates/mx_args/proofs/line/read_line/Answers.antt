-- clap's matches of the words are those that the command's function gives.
use Rattle.std.proofs.Common.{◌≡◌, ◌⊎◌, ◌∙◌, ap, sym, subst, map, List, [], Option, IfErr, true, inl, inr, Err}
use Rattle.std.proofs.lemmas.Result.{IfOk-weaker}
use Rattle.clap.specs.Words.{App, HasKind, IsAmong, Kinds, Row, Text, app_of, fault_of, is_simple, is_simple_and_free, subcommand_of, subcommand_rows_of}
use Rattle.clap.specs.declared.error.kind.ErrorKind.{ErrorKind}
use Rattle.clap.specs.declared.error.kind.ErrorKind.TheVariants.{OutOfMemory}
use Rattle.mx_args.specs.Line.{line_app}
use Rattle.mx_args.specs.Misfits.{BadOrMemory, TellsMisfit}
use Rattle.mx_args.specs.declared.task.LineFault.TheVariants.{Memory}
use Rattle.mx_args.proofs.CommandLemmas.{line_is_free, line_is_simple, only_memory}
use Rattle.mx_args.proofs.MisfitLemmas.{fits}
use Rattle.mx_args.proofs.line.read_line.Goals as goal

pub returns-in-Ok : goal.returns-in-Ok
returns-in-Ok c =
    let app = c.in_ok-line_command.ensures in
    let words : List Text = map (λ w. w.now) c.args.words.now in
    let faultless : fault_of line_app words ≡ [] = sym (ap (λ (a : App). fault_of a words) app) ∙ c.in-Ok.ensures.kinds (ap is_simple_and_free app ∙ line_is_free) in
    let found : subcommand_rows_of c.in-Ok.matches ≡ subcommand_of line_app words =
    (c.in-Ok.ensures.matches (ap is_simple app ∙ line_is_simple)).1 ∙ ap (λ (a : App). subcommand_of a words) app in
    record {
      named = IfOk-weaker c.found_task.result _ _ (λ _ task. (faultless, (task.0, task.1, sym found ∙ task.2, task.3))) c.found_task.ensures.named;
      answered = λ task named. inl (c.found_task.ensures.answered task (named.1.0, named.1.1, found ∙ named.1.2, named.1.3));
      misfit = λ _. subst (λ (f : Option (Text × List Row)). IfErr c.found_task.result (BadOrMemory (TellsMisfit f))) found c.found_task.ensures.misfit;
      fault = λ faults. absurd (faults faultless);
    }

pub returns-in-Err : goal.returns-in-Err
returns-in-Err c =
    let app = c.in_ok-line_command.ensures in
    let free : is_simple_and_free (app_of c.in_ok-line_command.field-0) ≡ true = ap is_simple_and_free app ∙ line_is_free in
    let words : List Text = map (λ w. w.now) c.args.words.now in
    let faults : fault_of (app_of c.in_ok-line_command.field-0) words ≡ fault_of line_app words = ap (λ (a : App). fault_of a words) app in
    let memory : fault_of line_app words ≡ [] → c.line_fault.result ≡ Memory =
    λ none. c.line_fault.ensures.memory (c.kind.ensures ∙ only_memory _ c.in-Err.error (faults ∙ none) (c.in-Err.ensures.kinds free)) in
    let has : HasKind (fault_of line_app words) c.in-Err.error = subst (λ (k : Kinds). HasKind k c.in-Err.error) faults (c.in-Err.ensures.kinds free) in
    let kinds = subst (λ (k : ErrorKind). (k ≡ OutOfMemory) ⊎ IsAmong k (fault_of line_app words)) (sym c.kind.ensures) has in
    record {
      named = tt;
      answered = λ task named. inr (ap (λ fault. Err fault) (memory named.0));
      misfit = λ none. subst (BadOrMemory (TellsMisfit (subcommand_of line_app words))) (sym (memory none)) tt;
      fault = λ _. fits (fault_of line_app words) c.kind.result c.line_fault.ensures.text.0 c.line_fault.result kinds c.line_fault.ensures.text.1;
    }
