use Rattle.std.proofs.Common.{rules, string_bytes}
use Rattle.mx_files.proofs.FolderLemmas.{changes-beside}
use Rattle.mx_files.proofs.init.begin.Goals as goal

pub returns-in_err-held-clause-others : goal.returns-in_err-held-clause-others
returns-in_err-held-clause-others g c =
    changes-beside c.args.replaces c.args.path.now (string_bytes c.in_ok-place.place) c.as_str-3.result.now c.as_str-4.result.now (g.F.Folder.paths c.args.folder.now) (g.F.Folder.paths c.clear.new.folder)
    (g.F.Folder.paths c.make_private.new.folder) c.in_ok-place.ensures (search rules) (search rules) c.clear.ensures.others c.make_private.ensures.others
