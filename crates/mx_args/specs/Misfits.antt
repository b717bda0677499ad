-- What a command line is answered with that names no task.
use Rattle.std.specs.Prelude.{◌≡◌, ◌≢◌, ◌⊎◌, ◌++◌, ℕ, List, Option, Some, None, IsSome, IfSome, String, codes, string_bytes}
use Rattle.std.specs.declared.alloc.Global.{Global}
use Rattle.clap.specs.Words.{IsAmong, Kinds, Row, Text, first_of}
use Rattle.clap.specs.declared.error.kind.ErrorKind.{ErrorKind}
use Rattle.clap.specs.declared.error.kind.ErrorKind.TheVariants.{DisplayVersion, OutOfMemory}
use Rattle.mx_args.specs.Named.{Absent, Given, HasValue, IsNumber, OfAll}
use Rattle.mx_args.specs.declared.line.Misfit.{Misfit}
use Rattle.mx_args.specs.declared.line.Misfit.TheVariants.{Token, Port, Count, CopyAndEvery, Every, Purse, PurseAndStatements, FileAndMemory, NoBooks, NoToken, TokenForFile, Missing}
use Rattle.mx_args.specs.declared.task.LineFault.{LineFault}
use Rattle.mx_args.specs.declared.task.LineFault.TheVariants.{Bad, Version, Memory}

-- ---- what is wrong with a command

-- among the rows `id` has a value
abbrev pub Has : List Row → Text → Type 0
Has rows id = IsSome (first_of id rows)

-- `run` without `--memory`
abbrev pub IsRun : Text → List Row → Type 0
IsRun name rows = (name ≡ codes "run") × ¬ Given rows (codes "memory") (codes "true")

-- `run` with `--memory`
abbrev pub IsRunInMemory : Text → List Row → Type 0
IsRunInMemory name rows = (name ≡ codes "run") × Given rows (codes "memory") (codes "true")

-- the port is a number from 1 to 65535
abbrev pub HasPort : List Row → Type 0
HasPort rows = (port : ℕ) × HasValue rows (codes "port") (IsNumber 65535 port)

-- the count is a number from 1 to 1000000
abbrev pub HasCount : List Row → Type 0
HasCount rows = (count : ℕ) × HasValue rows (codes "count") (IsNumber 1000000 count)

-- `serve` with a file, a port and a count
abbrev pub IsServe : Text → List Row → Type 0
IsServe name rows = (name ≡ codes "serve") × Has rows (codes "FILE") × HasPort rows × HasCount rows

-- why the copies that are asked for are none: there is `--copy` or `--every` alone; or both, and then it is the value of `--every`
abbrev pub IsCopyMisfit : List Row → Misfit → Type 0
IsCopyMisfit rows CopyAndEvery = (Has rows (codes "copy") × Absent rows (codes "every"))
    ⊎ (Absent rows (codes "copy") × Has rows (codes "every"))
IsCopyMisfit rows Every = Has rows (codes "copy") × Has rows (codes "every")
IsCopyMisfit rows _ = ⊥

-- a command that takes a file, and further values that may be wrong
abbrev pub HasValues : Text → Type 0
HasValues name = (name ≡ codes "init") ⊎ (name ≡ codes "serve") ⊎ (name ≡ codes "report")

-- why the command of this name with these rows, which is no task, is none. What else is wrong follows from that: where
-- `init` has its file, it is the token; where `run` without `--memory` has its file, that it has a token
abbrev pub HasMisfit : Text → List Row → Misfit → Type 0
HasMisfit name rows FileAndMemory = IsRunInMemory name rows × Has rows (codes "FILE")
HasMisfit name rows NoToken = IsRunInMemory name rows × Absent rows (codes "FILE")
    × Absent rows (codes "token")
HasMisfit name rows Token =
    (IsRunInMemory name rows × Absent rows (codes "FILE") × Has rows (codes "token"))
    ⊎ ((name ≡ codes "init") × Has rows (codes "FILE"))
HasMisfit name rows TokenForFile = IsRun name rows × Has rows (codes "FILE")
HasMisfit name rows NoBooks = IsRun name rows × Absent rows (codes "FILE")
HasMisfit name rows Port = (name ≡ codes "serve") × Has rows (codes "FILE") × ¬ HasPort rows
HasMisfit name rows Count = (name ≡ codes "serve") × Has rows (codes "FILE") × HasPort rows × ¬ HasCount rows
HasMisfit name rows CopyAndEvery = IsServe name rows × IsCopyMisfit rows CopyAndEvery
HasMisfit name rows Every = IsServe name rows × IsCopyMisfit rows Every
HasMisfit name rows Purse = (name ≡ codes "report") × Has rows (codes "FILE") × ¬ OfAll rows
    × Has rows (codes "purse")
HasMisfit name rows PurseAndStatements = (name ≡ codes "report") × Has rows (codes "FILE") × OfAll rows
    × Has rows (codes "purse")
HasMisfit name rows Missing = (name ≢ codes "run") × (Absent rows (codes "FILE") ⊎ ¬ HasValues name)

-- the command that was found, with its rows, is no task for this cause
abbrev pub HasFoundMisfit : Option (Text × List Row) → Misfit → Type 0
HasFoundMisfit None misfit = misfit ≡ Missing
HasFoundMisfit (Some found) misfit = HasMisfit found.0 found.1 misfit

-- ---- how it is told

-- the words of a cause
abbrev pub words_of : Misfit → Text
words_of Token = codes "the value of --token has to be 32 hexadecimal digits"
words_of Port = codes "the value of --port has to be a number from 1 to 65535, without leading zeros"
words_of Count = codes "the value of --count has to be a number from 1 to 1000000, without leading zeros"
words_of CopyAndEvery = codes "serve takes --copy and --every, or neither"
words_of Every = codes "the value of --every has to be a number from 1 to 86400, without leading zeros"
words_of Purse = codes "the value of --purse has to be 1 to 24 of a to z, 0 to 9 and -, the first a letter"
words_of PurseAndStatements = codes "report takes --purse or --statements, and not both"
words_of FileAndMemory = codes "run takes FILE or --memory, and not both"
words_of NoBooks = codes "run takes FILE, or --memory and --token"
words_of NoToken = codes "run --memory takes --token"
words_of TokenForFile = codes "run FILE takes no --token"
words_of Missing = codes "the command is not one of this program, or lacks a word"

-- the words of an error, with a usage and a hint
abbrev pub error_text : Text → Text → Text
error_text words usage = codes "error: " ++ words ++ codes "\n\n" ++ usage
    ++ codes "\n\nFor more information, try '--help'.\n"

-- the text is these words as an error, with a usage, which is clap's to write
abbrev pub TellsWords : Text → Text → Type 0
TellsWords words text = (usage : Text) × (text ≡ error_text words usage)

-- the text tells why the command that was found is no task
abbrev pub TellsMisfit : Option (Text × List Row) → Text → Type 0
TellsMisfit found text = (misfit : Misfit) × HasFoundMisfit found misfit
    × TellsWords (words_of misfit) text

-- the line is bad, of which P tells, or memory ran out
abbrev pub BadOrMemory : (Text → Type 0) → LineFault → Type 0
BadOrMemory P (Bad text) = P (string_bytes text)
BadOrMemory P (Version text) = ⊥
BadOrMemory P Memory = Unit {0}

-- ---- what clap's errors are answered with

-- the fault is that of an error of this kind that shows this text, if there is memory for that
abbrev pub IsFaultOf : ErrorKind → Option (String Global) → LineFault → Type 0
IsFaultOf kind None fault = fault ≡ Memory
IsFaultOf kind (Some text) fault = (kind ≡ OutOfMemory → fault ≡ Memory)
    × (kind ≡ DisplayVersion → fault ≡ Version text)
    × (kind ≢ OutOfMemory → kind ≢ DisplayVersion → fault ≡ Bad text)

-- the same of an error that displays as `output`, where that is known
abbrev pub IsFaultOfError : ErrorKind → Option Text → LineFault → Type 0
IsFaultOfError kind output fault =
    (text : Option (String Global)) × IsFaultOf kind text fault
    × IfSome text (λ shown. IfSome output (λ bytes. string_bytes shown ≡ bytes))

-- the fault is one of an error of one of these kinds
abbrev pub FitsKinds : Kinds → LineFault → Type 0
FitsKinds kinds (Bad text) = (kind : ErrorKind) × IsAmong kind kinds × (kind ≢ DisplayVersion)
FitsKinds kinds (Version text) = IsAmong DisplayVersion kinds
FitsKinds kinds Memory = Unit {0}
