-- What looks at the files of a folder tell.
use Rattle.std.proofs.Common.{◌≡◌, ℕ, ◌+◌, ◌<◌, ◌↔◌, ◌∙◌, true, List, length, take, nat_lt, arith, refl, rules, subst, IsTrue, ◌≢◌, ◌⊎◌, ap, false, codes, length-append, inl, inr, string_bytes, Result, Ok, Err}
use Rattle.std.specs.Prelude.{OnErr}
use Rattle.std.proofs.lemmas.Grind.{common_steps}
use Rattle.mx_files.specs.Makings.{Begins, ChangesBeside, Installs, IsGivenUp, IsOwned, IsPut, KeepsBehind, KeepsFile}
use Rattle.mx_files.specs.declared.making.Making.{Making}
use Rattle.mx_files.specs.declared.places.Replaces.{Replaces}
use Rattle.mx_files.specs.Folders.{ChangesAt, IsMissing, IsPlaceBehind, IsPlaceFor, IsPrivate, Makes, named, removed, init_of, Paths, Spot, log_of, log_spot, spot_behind, unseen, vacant, taken, IsHead, IsLog, may_begin_log}

-- one byte more than so many, of so many and one
longer : (most : ℕ) (bytes : List ℕ) → IsTrue (nat_lt most (length (take (most + 1) bytes))) ↔ (most < length bytes)
longer most bytes = grind (arith, common_steps)

-- a head that may begin a log
pub head-log : (spot : Spot) (head : List ℕ) → IsHead spot 57 head → may_begin_log head ≡ true → IsLog spot (nat_lt 56 (length head))
head-log unseen head is begins = tt
head-log vacant head is begins = rw is refl
head-log (taken inode) head is begins = (rw (← is, begins) (search rules), rw is (longer 56 inode.bytes))

-- so it is where the log of this path belongs
pub head-log_at : (paths : Paths) (path log head : List ℕ) (n : ℕ) → log ≡ log_of path → IsHead (spot_behind paths log) 57 head → may_begin_log head ≡ true → n ≡ length head → IsLog (log_spot paths path) (nat_lt 56 n)
head-log_at paths path log head n at is begins long = let P : List ℕ → Type 0 = λ l. IsHead (spot_behind paths l) 57 head in rw long (head-log (log_spot paths path) head (subst P at is) begins)

-- what changes only where new books are made is beside their place
pub changes-beside : (replaces : Replaces) (path place at_clear at_make : List ℕ) (old mid new : Paths) → IsPlaceFor replaces old path place → at_clear ≡ init_of place → at_make ≡ init_of place → ChangesAt at_clear old mid → ChangesAt at_make mid new → ChangesBeside replaces path old new
changes-beside replaces path place at_clear at_make old mid new right clear make first second = λ q away. second q (λ e. away place right (e ∙ make)) ∙ first q (λ e. away place right (e ∙ clear))

-- a path isn't that where new books of it are made
apart : (path place : List ℕ) → place ≡ path → path ≢ init_of place
apart path place same = λ e. absurd (omega (arith, length-append place (codes "-init"), ap length e, ap length same))

-- where new books of a path weren't begun, its file is as it was
begun-not : (replaces : Replaces) (spot : Spot) (target path : List ℕ) (old new : Paths) → ((q : List ℕ) → ((place : List ℕ) → IsPlaceBehind replaces spot target path place → q ≢ init_of place) → new.spot q ≡ old.spot q) → KeepsBehind spot target path old new
begun-not replaces unseen target path old new beside = tt
begun-not replaces vacant target path old new beside = inl (beside path (λ place right. apart path place right))
begun-not replaces (taken inode) target path old new beside = inl (beside target (λ place right. apart target place right.1))

pub keeps-begin : (replaces : Replaces) (path : List ℕ) (old new : Paths) → ChangesBeside replaces path old new → KeepsFile path old new
keeps-begin replaces path old new beside = begun-not replaces (spot_behind old path) (old.target path) path old new (λ q away. beside q (λ place right. away place right.behind))

-- a file that was made is its owner's alone
pub owned : (old mid new : Spot) (number : ℕ) → Makes (removed old) mid number 0o600 → new ≡ named false mid → IsOwned new
owned unseen mid new number made put = rw (put, made) tt
owned vacant mid new number made put = rw (put, made) (refl, refl)
owned (taken inode) mid new number made put = rw (put, made) (refl, refl)

-- and where the disk knows its name, it is so for good
pub private : (old mid new : Spot) (number : ℕ) → Makes (removed old) mid number 0o600 → new ≡ named true mid → IsPrivate new
private unseen mid new number made put = rw (put, made) tt
private vacant mid new number made put = rw (put, made) (refl, refl, refl)
private (taken inode) mid new number made put = rw (put, made) (refl, refl, refl)

-- nothing is where it was removed
pub missing : (old new : Spot) → new ≡ removed old → IsMissing new
missing unseen new gone = rw gone tt
missing vacant new gone = rw gone tt
missing (taken inode) new gone = rw gone tt

-- new books that are put in their place are made there
pub installs : (replaces : Replaces) (path : List ℕ) (old mid new : Paths) (making : Making) → Begins replaces path old mid making → IsPut true mid new making → Installs replaces path old new
installs replaces path old mid new making begins put =
    let gone = missing _ _ put.gone in
    record {
      place = string_bytes making.place;
      right = begins.place;
      put = private _ _ _ _ begins.made put.put;
      gone = subst (λ q. IsMissing (new.spot q)) making.made_beside gone;
      log = subst (λ q. IsMissing (new.spot q)) (making.log_beside ∙ ap log_of making.made_beside) (missing _ _ put.log);
    }

-- what was kept twice
both : (old mid new : Spot) → (mid ≡ old) ⊎ IsOwned mid → (new ≡ mid) ⊎ IsOwned new → (new ≡ old) ⊎ IsOwned new
both old mid new (inl kept) (inl last) = inl (last ∙ kept)
both old mid new (inr made) (inl last) = inr (rw last made)
both old mid new first (inr made) = inr made

-- where they weren't put in their place, it is as it was, or the one that was made
pub ended-not : (replaces : Replaces) (spot : Spot) (target path place : List ℕ) (old mid new : Paths) → IsPlaceBehind replaces spot target path place → KeepsBehind spot target path old mid → (new.spot place ≡ mid.spot place) ⊎ IsOwned (new.spot place) → KeepsBehind spot target path old new
ended-not replaces unseen target path place old mid new right kept last = tt
ended-not replaces vacant target path place old mid new right kept last = both _ _ _ kept (subst (λ (at : List ℕ). (new.spot at ≡ mid.spot at) ⊎ IsOwned (new.spot at)) right last)
ended-not replaces (taken inode) target path place old mid new right kept last = both _ _ _ kept (subst (λ (at : List ℕ). (new.spot at ≡ mid.spot at) ⊎ IsOwned (new.spot at)) right.1 last)

pub keeps-end : (replaces : Replaces) (path : List ℕ) (old mid new : Paths) (making : Making) → Begins replaces path old mid making → ChangesBeside replaces path old mid → IsGivenUp mid new making ⊎ IsPut false mid new making → KeepsFile path old new
keeps-end replaces path old mid new making begins beside (inl given) = ended-not replaces (spot_behind old path) (old.target path) path (string_bytes making.place) old mid new begins.place.behind (keeps-begin replaces path old mid beside) (inl given.kept)
keeps-end replaces path old mid new making begins beside (inr put) = ended-not replaces (spot_behind old path) (old.target path) path (string_bytes making.place) old mid new begins.place.behind (keeps-begin replaces path old mid beside) (inr (owned (old.spot (string_bytes making.made)) _ _ making.number begins.made put.put))

-- what holds anyway
pub on_any : {X E : Type 0} {A : Type 0} (r : Result X E) → A → OnErr r A
on_any (Ok x) fact = tt
on_any (Err e) fact = fact
