-- How a copy that was made beside its place comes there.
use Rattle.std.proofs.Common.{◌≡◌, ◌≢◌, ◌⊎◌, ◌∙◌, ◌+◌, ℕ, true, false, List, length, ap, arith, codes, inl, inr, length-append, string_bytes, subst, sym}
use Rattle.mx_files.specs.Copying.{PutsCopy}
use Rattle.mx_files.specs.Folders.{ChangesAtBoth, IsMissing, Makes, Paths, init_of, log_of, removed, spot_behind}
use Rattle.mx_files.specs.Makings.{Begins, ChangesBeside, ChangesIn, IsGivenUp, IsPut, KeepsFile}
use Rattle.mx_files.specs.declared.making.Making.{Making}
use Rattle.mx_files.specs.declared.places.Replaces.{Replaces}
use Rattle.mx_files.proofs.FolderLemmas.{ended-not, keeps-begin, missing, owned, private}

-- how long paths are with an ending more
init-long : (place : List ℕ) → length (init_of place) ≡ length place + 5
init-long place = length-append place (codes "-init")

log-long : (place : List ℕ) → length (log_of place) ≡ length place + 4
log-long place = length-append place (codes "-wal")

module _ (making : Making) where
  abbrev place : List ℕ
  place = string_bytes making.place

  made-long : length (string_bytes making.made) ≡ length place + 5
  made-long = ap length making.made_beside ∙ init-long place

  its-log-long : length (string_bytes making.log) ≡ length place + 9
  its-log-long = let l = ap length making.log_beside ∙ log-long (string_bytes making.made) in omega (arith, l, made-long)

  -- none of these paths is another of them
  made-apart : (string_bytes making.made ≢ string_bytes making.log) × (string_bytes making.made ≢ log_of place)
  made-apart = (
    λ e. absurd (omega (arith, made-long, its-log-long, ap length e)),
    λ e. absurd (omega (arith, made-long, log-long place, ap length e)),
  )

  place-apart : (place ≢ string_bytes making.log) × (place ≢ log_of place)
  place-apart = (
    λ e. absurd (omega (arith, its-log-long, ap length e)),
    λ e. absurd (omega (arith, log-long place, ap length e)),
  )

  log-apart : (log_of place ≢ place) × (log_of place ≢ string_bytes making.made) × (log_of place ≢ string_bytes making.log)
  log-apart = (
    λ e. absurd (omega (arith, log-long place, ap length e)),
    λ e. absurd (omega (arith, made-long, log-long place, ap length e)),
    λ e. absurd (omega (arith, its-log-long, log-long place, ap length e)),
  )

-- while logs are removed, what was made for a copy stays
begins-later : (replaces : Replaces) (path : List ℕ) (old mid new : Paths) (making : Making) → Begins replaces path old mid making
    → ChangesAtBoth (string_bytes making.log) (log_of (string_bytes making.place)) mid new → Begins replaces path old new making
begins-later replaces path old mid new making begins changes =
    let apart = made-apart making in
    let same = changes (string_bytes making.made) apart.0 apart.1 in
    record {
      place = begins.place;
      left = begins.left;
      made = subst (λ spot. Makes (removed (old.spot (string_bytes making.made))) spot making.number 0o600) (sym same) begins.made;
    }

-- a copy that was put in its place
pub puts-copy : (replaces : Replaces) (path : List ℕ) (old mid cleared new : Paths) (making : Making) → Begins replaces path old mid making
    → ChangesAtBoth (string_bytes making.log) (log_of (string_bytes making.place)) mid cleared → IsMissing (cleared.spot (log_of (string_bytes making.place)))
    → ChangesIn making cleared new → IsPut true cleared new making → PutsCopy replaces path old new
puts-copy replaces path old mid cleared new making begins changes none ends put =
    let later = begins-later replaces path old mid cleared making begins changes in
    let apart = log-apart making in
    let same = ends (log_of (string_bytes making.place)) apart.0 apart.1 apart.2 in
    record {
      place = string_bytes making.place;
      right = begins.place;
      put = private _ _ _ _ later.made put.put;
      log = subst IsMissing (sym same) none;
      gone = subst (λ q. IsMissing (new.spot q)) making.made_beside (missing _ _ put.gone);
      made_log = subst (λ q. IsMissing (new.spot q)) (making.log_beside ∙ ap log_of making.made_beside) (missing _ _ put.log);
    }

-- where it wasn't, the file at its place is as it was, or the one that was made
pub keeps-late : (replaces : Replaces) (path : List ℕ) (old mid cleared new : Paths) (making : Making) → Begins replaces path old mid making → ChangesBeside replaces path old mid
    → ChangesAtBoth (string_bytes making.log) (log_of (string_bytes making.place)) mid cleared → IsGivenUp cleared new making ⊎ IsPut false cleared new making
    → KeepsFile path old new
keeps-late replaces path old mid cleared new making begins beside changes ends =
    let right = begins.place.behind in
    let apart = place-apart making in
    let still = changes (string_bytes making.place) apart.0 apart.1 in
    let kept = ended-not replaces (spot_behind old path) (old.target path) path (string_bytes making.place) old mid cleared right (keeps-begin replaces path old mid beside) (inl still) in
    let made = (begins-later replaces path old mid cleared making begins changes).made in
    elim ends [
      | inl given ↦ ended-not replaces (spot_behind old path) (old.target path) path (string_bytes making.place) old cleared new right kept (inl given.kept)
      | inr put ↦ ended-not replaces (spot_behind old path) (old.target path) path (string_bytes making.place) old cleared new right kept (inr (owned (old.spot (string_bytes making.made)) _ _ making.number made put.put))
    ]
