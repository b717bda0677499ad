-- While there is no worry, a stop leaves what is there.
use Rattle.std.proofs.Common.{◌≡◌, ◌≤◌, ◌&&◌, ◌||◌, not, zero-le, le_refl, ℕ, zero, suc, Bool, true, false, IsTrue, refl, sym, ap₂, subst, ◌∙◌}
use Rattle.sqlite_trees.specs.Tree.{Trees}
use Rattle.sqlite_schema.specs.declared.schema.Schema.{Schema}
use Rattle.sqlite.specs.Effect.{Database}
use Rattle.sqlite.specs.State.{State}
use Rattle.mx_tables.specs.States.{worry, worry_at, Leaves}
use Rattle.mx_tables.specs.Rounds.{Lent, IsSettled, rows_of, base_of, doubt_of, harm_of}
use Rattle.sqlite_trees.specs.declared.store.Store.{Ghosts}
use Rattle.sqlite_trees.specs.View.{doubt}
use Rattle.sqlite_trees.proofs.Doubt.{no_doubt}
use Rattle.sqlite.specs.Held.{state}

-- open where there is no worry
abbrev pub Lives : ℕ → Bool → Type 0
Lives zero live = IsTrue live
Lives (suc n) live = Unit {0}

lives : (live clean : Bool) → Lives (worry_at live clean) live
lives true true = refl
lives false true = tt
lives live false = tt

clean_at : (live clean : Bool) → worry_at live clean ≡ 0 → doubt clean ≡ 0
clean_at live true none = no_doubt true refl
clean_at live false none = absurd (cc)

-- ---- in a round or in none

-- where there is no harm, a stop leaves what was settled
pub left_as_base : (s : State) → ((db : Trees) → IsTrue s.is_open → s.may_leave db → db ≡ s.committed.trees) → (db : Database) → worry s ≡ 0 → Leaves s db → db ≡ s.committed
left_as_base s law db none left =
    let live : IsTrue s.is_open = subst (λ n. Lives n s.is_open) none (lives s.is_open s.is_clean) in
    ap₂ (λ (s : Schema) (d : Trees). record { schema = s; trees = d }) (left.schema ∙ sym (left.base none)) (law db.trees live left.trees)

rest_at : (begun live inside clean : Bool) → (doubt clean ≡ 0 → begun ≡ false) → worry_at (live && (not begun || inside)) clean ≡ worry_at live clean
rest_at true live inside true h = absurd (cc (h (no_doubt true refl)))
rest_at true live inside false h = refl
rest_at false true inside clean h = refl
rest_at false false inside clean h = refl

-- what is settled is doubted for harm alone, and is the rows
pub rest_in : (begun live inside clean : Bool) (rows base : Database) → (doubt clean ≡ 0 → (begun ≡ false) × (IsTrue live → rows ≡ base))
    → (worry_at (live && (not begun || inside)) clean ≡ worry_at live clean) × (worry_at live clean ≡ 0 → rows ≡ base)
rest_in begun live inside clean rows base settled = (
  rest_at begun live inside clean (λ h. (settled h).0),
  λ none. (settled (clean_at live clean none)).1 (subst (λ n. Lives n live) none (lives live clean)),
)

pub rest_of : {S : Type 0} (g : Ghosts S) (t : Lent S) → IsSettled g t → (doubt_of g t ≡ harm_of g t) × (harm_of g t ≡ 0 → rows_of g t ≡ base_of g t)
rest_of g t = rest_in t.1 (state g t.0).is_open (state g t.0).in_transaction (state g t.0).is_clean (rows_of g t) (base_of g t)

-- harm is doubt
pub deep_at : (begun live inside clean : Bool) → worry_at live clean ≤ worry_at (live && (not begun || inside)) clean
deep_at begun live inside false = le_refl _
deep_at begun true inside true = zero-le
deep_at begun false inside true = le_refl _
