use Rattle.std.proofs.lemmas.Result.{on_err_weaker, on_ok_weaker}
use Rattle.mx_files.proofs.FolderLemmas.{installs, keeps-begin, keeps-end, on_any}
use Rattle.mx_files.specs.declared.places.Replaces.TheVariants.{EmptyFile}
use Rattle.mx_files.proofs.files.make.Goals as goal

pub returns-in_err-making-clause-kept : goal.returns-in_err-making-clause-kept
returns-in_err-making-clause-kept g c = on_any c.from_residual.result (keeps-begin EmptyFile c.args.path.now (g.F.Folder.paths c.args.folder.now) (g.F.Folder.paths c.begin.new.folder) c.begin.ensures.others)

pub returns-clause-kept : goal.returns-clause-kept
returns-clause-kept g c =
    on_err_weaker c.end.result
    (keeps-end EmptyFile c.args.path.now (g.F.Folder.paths c.args.folder.now) (g.F.Folder.paths c.begin.new.folder) (g.F.Folder.paths c.end.new.folder) c.in_ok-making.making c.in_ok-making.ensures.begins c.in_ok-making.ensures.others)
    c.end.ensures.err

pub returns-clause-placed : goal.returns-clause-placed
returns-clause-placed g c =
    on_ok_weaker c.end.result
    (installs EmptyFile c.args.path.now (g.F.Folder.paths c.args.folder.now) (g.F.Folder.paths c.begin.new.folder) (g.F.Folder.paths c.end.new.folder) c.in_ok-making.making c.in_ok-making.ensures.begins)
    c.end.ensures.put
