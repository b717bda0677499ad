-- What stands at the paths of a file system in memory.
use Rattle.std.specs.Prelude.{Option, None, Some, String}
use Rattle.std.specs.BTreeMap.{BTreeMap, get_by_text}
use Rattle.mx_files.specs.Folders.{Inode, Paths, Spot, vacant, taken}
use Rattle.mx_files.specs.declared.stored_file.StoredFile.{StoredFile}

-- a file
abbrev pub inode_of : StoredFile → Inode
inode_of file = record { kind = file.kind; bytes = file.bytes.now; number = file.number; names = 1; mode = file.mode; is_synced = file.is_synced }

-- a file, or nothing
abbrev pub spot_of : Option StoredFile → Spot
spot_of None = vacant
spot_of (Some file) = taken (inode_of file)

-- the files by their paths: no path is a link
abbrev pub paths_of : {A : Type 0} → BTreeMap (String A) StoredFile → Paths
paths_of files = record { spot = λ path. spot_of (get_by_text files path); target = λ path. path }
