-- What is said of the program in usage texts is no part of what is read.
use Rattle.std.proofs.Common.{◌≡◌, rules}
use Rattle.std.proofs.lemmas.Result.{IfOk-weaker}
use Rattle.clap.specs.Words.{app_of}
use Rattle.mx_args.specs.Line.{program_app}
use Rattle.mx_args.proofs.commands.program_command.Goals as goal

pub returns : goal.returns
returns c =
    let program : app_of c.subcommand_required.result ≡ program_app = search rules in
    IfOk-weaker c.bin_name.result _ _ (λ x h. let fields = h.0 in search rules) c.bin_name.ensures
