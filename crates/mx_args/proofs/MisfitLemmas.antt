-- What a line that names no task is answered with.
use Rattle.std.proofs.Common.{◌≡◌, ◌≢◌, ◌⊎◌, ◌∙◌, List, Option, Some, None, String, subst, inl, inr, option_map}
use Rattle.std.specs.declared.alloc.Global.{Global}
use Rattle.clap.specs.Words.{IsAmong, Kinds, Row, Text, subcommand_name_of, subcommand_rows_of}
use Rattle.clap.specs.declared.ArgMatches.{ArgMatches}
use Rattle.clap.specs.declared.error.kind.ErrorKind.{ErrorKind}
use Rattle.clap.specs.declared.error.kind.ErrorKind.TheVariants.{DisplayVersion, OutOfMemory}
use Rattle.mx_args.specs.Misfits.{BadOrMemory, FitsKinds, HasFoundMisfit, IsFaultOf, TellsMisfit, TellsWords, words_of}
use Rattle.mx_args.specs.declared.line.Misfit.{Misfit}
use Rattle.mx_args.specs.declared.task.LineFault.{LineFault}
use Rattle.mx_args.specs.declared.task.LineFault.TheVariants.{Bad, Version, Memory}
use Rattle.mx_args.proofs.CommandLemmas.{names_are}

-- the words of a misfit of what was found tell why that is no task
pub told : (found : Option (Text × List Row)) (misfit : Misfit) (fault : LineFault) → HasFoundMisfit found misfit
    → BadOrMemory (TellsWords (words_of misfit)) fault → BadOrMemory (TellsMisfit found) fault
told found misfit (Bad text) has tells = (misfit, has, tells)
told found misfit (Version text) has tells = tells
told found misfit Memory has tells = tt

none_of : {A B : Type 0} (o : Option (A × B)) → None ≡ option_map (λ p. p.0) o → o ≡ None
none_of None h = cc
none_of (Some p) h = cc

-- nothing was found
pub found_nothing : (m : ArgMatches) → None ≡ subcommand_name_of m → subcommand_rows_of m ≡ None
found_nothing m h = none_of (subcommand_rows_of m) (h ∙ names_are m)

is_version : (kind : ErrorKind) → (kind ≡ DisplayVersion) ⊎ (kind ≢ DisplayVersion)
is_version DisplayVersion = inl cc
is_version kind = inr (λ e. cc)

is_memory : (kind : ErrorKind) → (kind ≡ OutOfMemory) ⊎ (kind ≢ OutOfMemory)
is_memory OutOfMemory = inl cc
is_memory kind = inr (λ e. cc)

bad_fits : (kinds : Kinds) (kind : ErrorKind) (text : Option (String Global)) (shown : String Global) → (kind ≡ OutOfMemory) ⊎ IsAmong kind kinds
    → IsFaultOf kind text (Bad shown) → FitsKinds kinds (Bad shown)
bad_fits kinds kind None shown has h = absurd (cc)
bad_fits kinds kind (Some t) shown (inl memory) h = absurd (cc (h.0 memory))
bad_fits kinds kind (Some t) shown (inr among) h = (kind, among, λ e. cc (h.1 e))

version_fits : (kinds : Kinds) (kind : ErrorKind) (text : Option (String Global)) (shown : String Global) → (kind ≡ OutOfMemory) ⊎ IsAmong kind kinds
    → IsFaultOf kind text (Version shown) → FitsKinds kinds (Version shown)
version_fits kinds kind None shown has h = absurd (cc)
version_fits kinds kind (Some t) shown (inl memory) h = absurd (cc (h.0 memory))
version_fits kinds kind (Some t) shown (inr among) h = elim (is_version kind) [
  | inl e ↦ subst (λ (k : ErrorKind). IsAmong k kinds) e among
  | inr other ↦ elim (is_memory kind) [
    | inl memory ↦ absurd (cc (h.0 memory))
    | inr lasts ↦ absurd (cc (h.2 lasts other))
  ]
]

-- what an error of one of the kinds is answered with
pub fits : (kinds : Kinds) (kind : ErrorKind) (text : Option (String Global)) (fault : LineFault) → (kind ≡ OutOfMemory) ⊎ IsAmong kind kinds
    → IsFaultOf kind text fault → FitsKinds kinds fault
fits kinds kind text (Bad shown) has h = bad_fits kinds kind text shown has h
fits kinds kind text (Version shown) has h = version_fits kinds kind text shown has h
fits kinds kind text Memory has h = tt
