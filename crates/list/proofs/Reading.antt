-- Why the event tree is the right one: a sound list of events is the events of its tree, and the tree of a row's events is that row. So the
-- tree of a sound list is the one row whose events they are.
-- Assumes nothing.
use Prim.Native.Nat.{ℕ, zero, suc, ◌+◌, ◌-◌, ◌≤◌}
use mathlib.Core.Path.{◌≡◌, refl, sym, ap, ◌∙◌}
use mathlib.Core.Bool.{Bool, true, false}
use mathlib.Core.Logic.{◌⊎◌, inl, inr}
use mathlib.Core.List.{List, [], ◌∷◌}
use native.Mathlib.Omega.{arith}
use lib.Dec.{eqb}
use borrow.Author.Tests.{eq-eqb, ne_eqb}
use Rattle.record.specs.Choice.{choose}
use Rattle.record.specs.Event.{event, enter, exit}
use Rattle.record.specs.Stack.{none, after}
use Rattle.record.specs.Sound.{sound_from}
use Rattle.record.specs.declared.event.Event.{Event}
use Rattle.record.proofs.Soundness.{Stands, stands, sound_rest, after_enter, after_exit}
use Rattle.list.specs.Tree.{Row, pair, written, Rest, ends, leaves, entering, rest_of, row_of, tree_of, TreeWritten, TreeUnique}
use Rattle.list.specs.Tree as tree
use Rattle.list.specs.Listing.{open_items, SameNumberOpen}

-- the events of a rest, and the names of the pairs that it leaves, the innermost first
unfoldable pub unread : Rest → List Event
unread (ends row) = written row []
unread (leaves row name to rest) = written row (exit name to ∷ unread rest)

unfoldable pub left : Rest → List ℕ
left (ends row) = []
left (leaves row name to rest) = name ∷ left rest

-- an enter before a rest whose first exit has its name
enter_read : (e : Event) (held : List ℕ) (r : Rest) → left r ≡ e.name ∷ held → (unread (entering e r) ≡ enter e.name e.place ∷ unread r) × (left (entering e r) ≡ held)
unfolding unread left written
enter_read e held (ends row) q = let z : ◌≡◌ {A = ℕ} 0 1 = cc in absurd (omega arith)
enter_read e held (leaves inside name to (ends next)) q =
    let n : name ≡ e.name = cc in
    (ap (λ (m : ℕ). enter e.name e.place ∷ written inside (exit m to ∷ written next [])) (sym n), cc)
enter_read e held (leaves inside name to (leaves next out place rest)) q =
    let n : name ≡ e.name = cc in
    (ap (λ (m : ℕ). enter e.name e.place ∷ written inside (exit m to ∷ written next (exit out place ∷ unread rest))) (sym n), cc)

kinds : (n : ℕ) → n ≤ 1 → (n ≡ 0) ⊎ (n ≡ 1)
kinds zero h = inl refl
kinds (suc n) h = inr (omega arith)

same_event : (e : Event) (k : ℕ) → e.kind ≡ k → event k e.name e.place ≡ e
same_event e k q = ap (λ (m : ℕ). event m e.name e.place) (sym q)

no_names : (held : List ℕ) → none held ≡ true → held ≡ []
no_names [] q = refl
no_names (n ∷ ns) q = let z : ◌≡◌ {A = ℕ} 0 1 = cc in absurd (omega arith)

-- a sound list is what its rest unreads to, and leaves the names that are open
pub rest_read : (deep d last : ℕ) (held : List ℕ) (es : List Event) → sound_from deep d last held es ≡ true → (unread (rest_of es) ≡ es) × (left (rest_of es) ≡ held)
unfolding rest_of choose unread left written sound_from
rest_read deep d last held [] q = (refl, sym (no_names held q))
rest_read deep d last held (e ∷ es) q = go (kinds e.kind st.kind) (rest_read deep d e.place (after e e.name held) es (sound_rest deep d last held e es q))
  where
    st : Stands deep d last held e
    st = stands deep d last held e es q

    go : (e.kind ≡ 0) ⊎ (e.kind ≡ 1) → (unread (rest_of es) ≡ es) × (left (rest_of es) ≡ after e e.name held) →
        (unread (rest_of (e ∷ es)) ≡ e ∷ es) × (left (rest_of (e ∷ es)) ≡ held)
    go (inl k) (a, b) =
        let r = enter_read e held (rest_of es) (b ∙ after_enter e e.name held k) in
        (rw (eq-eqb _ _ k) (r.0 ∙ ap (λ (x : Event). x ∷ unread (rest_of es)) (same_event e 0 k) ∙ ap (λ (l : List Event). e ∷ l) a), rw (eq-eqb _ _ k) r.1)
    go (inr k) (a, b) =
        let z : e.kind ≡ 0 → ⊥ = λ w. omega arith in (
          rw (ne_eqb _ _ z) (ap (λ (x : Event). x ∷ unread (rest_of es)) (same_event e 1 k) ∙ ap (λ (l : List Event). e ∷ l) a),
          rw (ne_eqb _ _ z) (ap (λ (l : List ℕ). e.name ∷ l) (b ∙ after_exit e e.name held k) ∙ sym (st.partner k)),
        )

rest_ends : (r : Rest) → left r ≡ [] → written (row_of r) [] ≡ unread r
unfolding left unread
rest_ends (ends row) q = refl
rest_ends (leaves row name to rest) q = let z : ◌≡◌ {A = ℕ} 0 1 = cc in absurd (omega arith)

-- a sound list is the events of its tree
pub tree_written : TreeWritten
unfolding tree_of
tree_written deep d es q =
    let r = rest_read deep d 0 [] es q in
    rest_ends (rest_of es) r.1 ∙ r.0

-- a row, read back
pub record Back (row : Row) : Type 0 where
  pub at_end : rest_of (written row []) ≡ ends row
  pub at_exit : (name to : ℕ) (es : List Event) → rest_of (written row (exit name to ∷ es)) ≡ leaves row name to (rest_of es)

pub read_back : (row : Row) → Back row
unfolding rest_of written choose
read_back tree.none = record { at_end = refl; at_exit = λ name to es. refl }
read_back (pair n from to inside next) =
    let i = read_back inside in
    let k = read_back next in
    record {
      at_end = rw (i.at_exit n to (written next []), k.at_end);
      at_exit = λ name end es. rw (i.at_exit n to (written next (exit name end ∷ es)), k.at_exit name end es);
    }

-- the tree of a row's events is the row
pub tree_unique : TreeUnique
unfolding tree_of
tree_unique row = ap row_of (read_back row).at_end

-- whole pairs leave as many items open as before
pub same_number_open : SameNumberOpen
unfolding written open_items choose
same_number_open n tree.none es = refl
same_number_open n (pair name from to inside next) es = go (eqb name 15) refl
    (λ m. same_number_open m inside (exit name to ∷ written next es))
    (same_number_open n next es)
  where
    go : (z : Bool) → eqb name 15 ≡ z → ((m : ℕ) → open_items m (written inside (exit name to ∷ written next es)) ≡ open_items m (exit name to ∷ written next es)) →
        open_items n (written next es) ≡ open_items n es →
        open_items n (enter name from ∷ written inside (exit name to ∷ written next es)) ≡ open_items n es
    go true z held later =
        let k : n + 1 - 1 ≡ n = omega arith in
        rw (z, held (n + 1), z, k) later
    go false z held later = rw (z, held n, z) later
