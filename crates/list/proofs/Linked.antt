-- Two items of the record stand in one list of the result exactly where a chain links them.
-- Assumes nothing.
use Prim.Native.Nat.{ℕ, ◌+◌, ◌≤◌, ◌<◌}
use mathlib.Core.Path.{◌≡◌, sym, ap, ◌∙◌}
use mathlib.Core.Bool.{true, false}
use mathlib.Core.Logic.{◌⊎◌, inl, inr}
use mathlib.Core.List.{List, [], ◌∷◌, ◌++◌}
use native.Mathlib.Omega.{arith}
use lib.ListN.{length, drop, length-append, length-drop}
use Rattle.record.specs.Outcome.{gives}
use Rattle.record.specs.Sound.{sound}
use Rattle.record.specs.Stack.{nth}
use Rattle.record.specs.declared.event.Event.{Event}
use Rattle.list.specs.Tree.{tree_of}
use Rattle.list.specs.Lists.{lists}
use Rattle.list.specs.Neighbours.{Item, Chain, itself, onward, Linked}
use Rattle.list.specs.Gathered.{Gathered, finished, with_event, Comes, StandsIn, InOneList, ResultLinked}
use Rattle.list.proofs.Pairing.{order, rises, stays, one_exit, one_name}
use Rattle.list.proofs.Once.{once}
use Rattle.list.proofs.Gathering.{tree_lies, nothing_behind, nothing_before}
use Rattle.list.proofs.Coming.{comes_once}
use Rattle.list.proofs.Linking.{chain_then, chains_from, one_first}
use Rattle.list.proofs.Grouping.{Home, row_grouped}

-- every item has its place in a list
all_home : (deep d : ℕ) (document : List ℕ) (es out : List Event) → sound deep d es ≡ true → lists document es ≡ gives out →
    (k far : ℕ) → Item es k far → Home document es out k
all_home deep d document es out s q k far p =
    let t = tree_lies deep d document es out s q in
    let g = row_grouped out false (tree_of es) 0 [] t.lies (nothing_behind t) (nothing_before t) (finished t.all) (sym t.result) in
    g.homes k (omega arith) (omega (arith, p.enters.within, t.all)) p.enters

-- what is written from a later event on is shorter
longer_by : (before : List Event) (x : Event) (behind out : List Event) → length out < length (before ++ (x ∷ (behind ++ out)))
longer_by before x behind out = omega (arith, length-append before (x ∷ (behind ++ out)), length-append behind out)

module _ {document : List ℕ} {es : List Event} where
  not_longer : {k j : ℕ} {r t : List Event} → Gathered document es k r → Gathered document es j t → k ≤ j → length t ≤ length r
  not_longer (finished h) (finished l) q = omega arith
  not_longer (finished h) (with_event l b e g) q = absurd (omega arith)
  not_longer {k} {j} {r} {t} (with_event {before = before} {behind = behind} {out = out} l b e g) w q =
      go (order k j) (λ z. not_longer g w z) (λ z. once (with_event l b e g) (rw z w))
    where
      go : (k < j) ⊎ ((k ≡ j) ⊎ (j < k)) → (k + 1 ≤ j → length t ≤ length out) → (k ≡ j → r ≡ t) → length t ≤ length r
      go (inl z) f h = omega (arith, f (omega arith), longer_by before (nth es k) behind out)
      go (inr (inl z)) f h = omega (arith, ap length (h z))
      go (inr (inr z)) f h = absurd (omega arith)

  longer : {k j : ℕ} {r t : List Event} → Gathered document es k r → Gathered document es j t → k < j → k < length es → length t < length r
  longer (finished h) w q l = absurd (omega arith)
  longer {k} {j} (with_event {before = before} {behind = behind} {out = out} h b e g) w q l =
      omega (arith, not_longer g w (omega arith), longer_by before (nth es k) behind out)

  -- so what is written tells from which event on
  one_number : {k j : ℕ} {r : List Event} → Gathered document es k r → Gathered document es j r → k < length es → j < length es → k ≡ j
  one_number {k} {j} {r} g h l m = go (order k j)
    where
      go : (k < j) ⊎ ((k ≡ j) ⊎ (j < k)) → k ≡ j
      go (inl z) = absurd (omega (arith, longer g h z l))
      go (inr (inl z)) = z
      go (inr (inr z)) = absurd (omega (arith, longer h g z m))

  chain_within : {i k : ℕ} → Chain document es i k → k < length es → i < length es
  chain_within itself h = h
  chain_within (onward j c) h = j.earlier.enters.within

drop_once : (out : List Event) (x y : ℕ) → x < length out → y < length out → drop x out ≡ drop y out → x ≡ y
drop_once out x y h l q = omega (arith, ap length q, length-drop x out, length-drop y out)

-- one pair is the innermost
innermost_once : {out : List Event} {n k x y u w m : ℕ} → StandsIn out n x y m → StandsIn out k u w m → x ≡ u
innermost_once {out} {n} {k} {x} {y} {u} {w} {m} p q = go (order x u)
  where
    go : (x < u) ⊎ ((x ≡ u) ⊎ (u < x)) → x ≡ u
    go (inl z) =
        let c : w < m = stays p.held (omega arith) (omega (arith, rises q.held)) q.around in
        absurd (omega (arith, q.to_come))
    go (inr (inl z)) = z
    go (inr (inr z)) =
        let c : y < m = stays q.held (omega arith) (omega (arith, rises p.held)) p.around in
        absurd (omega (arith, p.to_come))

module _ {document : List ℕ} {es out : List Event} {i k m l : ℕ} (a : Home document es out i) (b : Home document es out k) (i_within : i < length es)
    (k_within : k < length es) (x : Comes document es out i m) (y : Comes document es out k l) where
  at_m : a.place ≡ m
  at_m = comes_once a.comes x

  at_l : b.place ≡ l
  at_l = comes_once b.comes y

  in_list_linked : InOneList out m l → Linked document es i k
  in_list_linked h =
      let p : h.from ≡ a.from = innermost_once h.one (rw at_m at a.stands) in
      let q : h.from ≡ b.from = innermost_once h.other (rw at_l at b.stands) in
      let there : Gathered document es b.first (drop a.from out) = rw (sym p ∙ q) b.there in
      let same : b.first ≡ a.first = one_number there a.there (chain_within b.chain k_within) (chain_within a.chain i_within) in
      chains_from a.chain (rw same at b.chain)

  linked_in_list : Linked document es i k → InOneList out m l
  linked_in_list h = go (first h)
    where
      first : Linked document es i k → a.first ≡ b.first
      first (inl c) = one_first (chain_then a.chain c) a.begins b.chain b.begins
      first (inr c) = one_first a.chain a.begins (chain_then b.chain c) b.begins

      go : a.first ≡ b.first → InOneList out m l
      go s =
          let there : Gathered document es b.first (drop a.from out) = rw s at a.there in
          let f : b.from ≡ a.from =
          drop_once out b.from a.from b.stands.around.enters.within a.stands.around.enters.within (once b.there there) in
          let n : b.name ≡ a.name = one_name (rw f at b.stands.around) a.stands.around in
          let t : b.to ≡ a.to = one_exit {m = a.name} (rw f at b.stands.around) a.stands.around in
          record {
            name = a.name;
            from = a.from;
            to = a.to;
            is_list = a.is_list;
            one = rw at_m at a.stands;
            other = rw (n, f, t, at_l) at b.stands;
          }

pub result_linked : ResultLinked
result_linked deep d document es out s q i k i_exit k_exit m l p r x y =
    let a = all_home deep d document es out s q i i_exit p in
    let b = all_home deep d document es out s q k k_exit r in
    (in_list_linked a b p.enters.within r.enters.within x y, linked_in_list a b p.enters.within r.enters.within x y)
