use Rattle.std.proofs.lemmas.Result.{on_err_weaker, on_ok_weaker}
use Rattle.mx_files.specs.declared.places.Replaces.TheVariants.{Nothing}
use Rattle.mx_files.proofs.FolderLemmas.{installs, keeps-begin, keeps-end, on_any}
use Rattle.mx_files.proofs.files.copy_over.Goals as goal

pub returns-in-Err-clause-kept : goal.returns-in-Err-clause-kept
returns-in-Err-clause-kept g c = on_any c.close_idle.result.answer (keeps-begin Nothing c.args.path.now (g.F.Folder.paths c.args.folder.now) (g.F.Folder.paths c.begin.new.folder) c.begin.ensures.others)

pub returns-in-Ok-clause-kept : goal.returns-in-Ok-clause-kept
returns-in-Ok-clause-kept g c =
    on_err_weaker c.put_copy.result.answer
    (keeps-end Nothing c.args.path.now (g.F.Folder.paths c.args.folder.now) (g.F.Folder.paths c.begin.new.folder) (g.F.Folder.paths c.put_copy.new.folder) c.in-Ok.making c.in-Ok.ensures.begins c.in-Ok.ensures.others)
    c.put_copy.ensures.err

pub returns-in-Ok-clause-placed : goal.returns-in-Ok-clause-placed
returns-in-Ok-clause-placed g c =
    on_ok_weaker c.put_copy.result.answer
    (installs Nothing c.args.path.now (g.F.Folder.paths c.args.folder.now) (g.F.Folder.paths c.begin.new.folder) (g.F.Folder.paths c.put_copy.new.folder) c.in-Ok.making c.in-Ok.ensures.begins)
    c.put_copy.ensures.put
