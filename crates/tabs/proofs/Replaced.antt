-- A line with its tabs replaced by spaces (specs/Replaced.antt), read in bytes, and the line as it is, read in columns: the columns of the spaces and tabs in
-- front, all of them or up to a maximum, are as many bytes there; and where reading comes to on the one and on the other.
-- Assumes nothing.
use mathlib.Core.Path.{◌≡◌, refl, sym, ap, ◌∙◌}
use mathlib.Core.Bool.{Bool, true, false}
use mathlib.Core.List.{List, [], ◌∷◌, ◌++◌}
use Prim.Native.Nat.{ℕ, zero, suc, ◌+◌, ◌-◌, ◌≤◌, ◌<◌}
use native.Mathlib.Omega.{arith}
use lib.ListN.{length, get_or, take, drop, replicate, length-append, length-replicate, length-drop, get_or-replicate, get_or-append}
use lib.Seq.{drop-append-add, drop-cons, get_or-drop}
use lib.Dec.{leb, ltb, eqb}
use borrow.Author.Tests.{eq-eqb, eqb-true, eqb-false, leb-true, leb-false, ltb-true, ltb-false}
use Rattle.record.specs.Choice.{choose, and}
use Rattle.record.specs.Options.{option_on}
use Rattle.scan.specs.Run.{or, space_or_tab, leading, every, first, blank, blanks}
use Rattle.scan.specs.Columns.{to_stop, width, columns, reach, reach_all, indentation}
use Rattle.tabs.specs.BytesBefore.{blanks_up_to, indentation_before}
use Rattle.tabs.specs.Replaced.{replaced, up_to, CameTo, CameOnly}
use Rattle.scan.specs.declared.columns.Reach.{Reach}
use Rattle.scan.proofs.InColumns.{width_tab, width_space, width_least, by_cases, tab_blank}
use Rattle.scan.proofs.Taken.{columns_all, columns_full}

-- what is written for a byte at column c: as many bytes as it has columns
unfoldable written : ℕ → ℕ → List ℕ
written c b = choose (eqb b 9) (replicate (to_stop c) 32) (b ∷ [])

written_length : (c b : ℕ) → length (written c b) ≡ width c b
unfolding written width choose
written_length c b = go (eqb b 9)
  where
    go : (z : Bool) → length (choose z (replicate (to_stop c) 32) (b ∷ [])) ≡ choose z (to_stop c) 1
    go true = length-replicate (to_stop c) 32
    go false = refl

replaced_on : (c b : ℕ) (l : List ℕ) → replaced c (b ∷ l) ≡ written c b ++ replaced (c + width c b) l
unfolding replaced written width choose
replaced_on c b l = go (eqb b 9)
  where
    go : (z : Bool) → choose z (replicate (to_stop c) 32 ++ replaced (c + to_stop c) l) (b ∷ replaced (c + 1) l) ≡
        choose z (replicate (to_stop c) 32) (b ∷ []) ++ replaced (c + choose z (to_stop c) 1) l
    go true = refl
    go false = refl

replaced_same : {c c' : ℕ} {l l' : List ℕ} → c ≡ c' → l ≡ l' → replaced c l ≡ replaced c' l'
replaced_same p q = cc

-- the columns of the first bytes, byte by byte
pub up_to_none : (c : ℕ) (l : List ℕ) → up_to c l 0 ≡ 0
unfolding up_to replaced
up_to_none c l = refl

up_to_empty : (c n : ℕ) → up_to c [] n ≡ 0
unfolding up_to replaced
up_to_empty c zero = refl
up_to_empty c (suc n) = refl

pub up_to_on : (c b : ℕ) (l : List ℕ) (n : ℕ) → up_to c (b ∷ l) (suc n) ≡ width c b + up_to (c + width c b) l n
unfolding up_to
up_to_on c b l n =
    let e : length (replaced c (b ∷ take n l)) ≡ length (written c b ++ replaced (c + width c b) (take n l)) = ap length (replaced_on c b (take n l)) in
    omega (arith, length-append (written c b) (replaced (c + width c b) (take n l)), written_length c b)

up_to_same : {c c' : ℕ} {l l' : List ℕ} {n n' : ℕ} → c ≡ c' → l ≡ l' → n ≡ n' → up_to c l n ≡ up_to c' l' n'
up_to_same p q r = cc

-- more bytes, behind some
pub up_to_plus : (c : ℕ) (l : List ℕ) (n m : ℕ) → up_to c l (n + m) ≡ up_to c l n + up_to (c + up_to c l n) (drop n l) m
up_to_plus c l zero m =
    let z = up_to_none c l in
    let e : up_to (c + up_to c l 0) l m ≡ up_to c l (0 + m) = up_to_same (omega arith) refl (omega arith) in
    omega arith
up_to_plus c [] (suc n) m = omega (arith, up_to_empty c (suc n + m), up_to_empty c (suc n), up_to_empty (c + up_to c [] (suc n)) m)
up_to_plus c (b ∷ l) (suc n) m =
    let i = up_to_plus (c + width c b) l n m in
    let s : up_to c (b ∷ l) (suc n + m) ≡ up_to c (b ∷ l) (suc (n + m)) = up_to_same refl refl (omega arith) in
    let f = up_to_on c b l n in
    let e : up_to (c + up_to c (b ∷ l) (suc n)) (drop n l) m ≡ up_to (c + width c b + up_to (c + width c b) l n) (drop n l) m = up_to_same (omega arith) refl refl in
    omega (arith, up_to_on c b l (n + m))

-- what is left behind them
drop_on : (c b : ℕ) (l : List ℕ) (n : ℕ) → drop (width c b + n) (replaced c (b ∷ l)) ≡ drop n (replaced (c + width c b) l)
drop_on c b l n =
    ap (drop (width c b + n)) (replaced_on c b l)
    ∙ ap (λ (w : ℕ). drop (w + n) (written c b ++ replaced (c + width c b) l)) (sym (written_length c b))
    ∙ drop-append-add (written c b) (replaced (c + width c b) l) n

drop_same : {n n' : ℕ} {l l' : List ℕ} → n ≡ n' → l ≡ l' → drop n l ≡ drop n' l'
drop_same p q = cc

replaced_empty : (c : ℕ) → replaced c [] ≡ []
unfolding replaced
replaced_empty c = refl

pub drop_replaced : (c : ℕ) (l : List ℕ) (n : ℕ) → drop (up_to c l n) (replaced c l) ≡ replaced (c + up_to c l n) (drop n l)
drop_replaced c l zero =
    let z = up_to_none c l in
    let e : c ≡ c + up_to c l 0 = omega arith in
    drop_same z refl ∙ replaced_same e refl
drop_replaced c [] (suc n) = drop_same (up_to_empty c (suc n)) refl ∙ replaced_empty c ∙ sym (replaced_empty (c + up_to c [] (suc n)))
drop_replaced c (b ∷ l) (suc n) =
    let f = up_to_on c b l n in
    let e : c + width c b + up_to (c + width c b) l n ≡ c + up_to c (b ∷ l) (suc n) = omega arith in
    drop_same f refl ∙ drop_on c b l (up_to (c + width c b) l n) ∙ drop_replaced (c + width c b) l n ∙ replaced_same e refl

-- the next byte has its own columns
pub up_to_wide : (c : ℕ) (l : List ℕ) (n : ℕ) → n < length l → up_to c l (suc n) ≡ up_to c l n + width (c + up_to c l n) (get_or l n 0)
up_to_wide c [] n h = absurd (omega arith)
up_to_wide c (b ∷ l) zero h =
    let s : width (c + up_to c (b ∷ l) 0) b ≡ width c b = ap (λ (x : ℕ). width x b) (omega (arith, up_to_none c (b ∷ l))) in
    omega (arith, up_to_none c (b ∷ l), up_to_on c b l 0, up_to_none (c + width c b) l)
up_to_wide c (b ∷ l) (suc n) h =
    let s : width (c + up_to c (b ∷ l) (suc n)) (get_or l n 0) ≡ width (c + width c b + up_to (c + width c b) l n) (get_or l n 0) =
    ap (λ (x : ℕ). width x (get_or l n 0)) (omega (arith, up_to_on c b l n)) in
    omega (arith, up_to_on c b l n, up_to_on c b l (suc n), up_to_wide (c + width c b) l n (omega arith))

-- where reading came to, in equal numbers
pub came_at : (c : ℕ) (l : List ℕ) {n n' left left' k k' : ℕ} → n ≡ n' → left ≡ left' → k ≡ k' → CameTo c l n left k → CameTo c l n' left' k'
came_at c l p q r t = rw (← p, ← q, ← r) t

-- where reading came to, behind some bytes
pub came_behind : (c : ℕ) (l : List ℕ) (n m left k : ℕ) → n ≤ length l → CameTo (c + up_to c l n) (drop n l) m left k → CameTo c l (n + m) left (up_to c l n + k)
came_behind c l n m left k h t =
    record {
      within = omega (arith, t.within, length-drop n l);
      whole = λ z. omega (arith, t.whole z, up_to_plus c l n m);
      a_tab = λ z. (omega (arith, (t.a_tab z).0, length-drop n l), sym (get_or-drop n l m 0) ∙ (t.a_tab z).1);
      parted = λ z. (omega (arith, (t.parted z).0, up_to_plus c l n m), omega (arith, (t.parted z).1, up_to_plus c l n (suc m), next));
    }
  where
    next : up_to c l (n + suc m) ≡ up_to c l (suc (n + m))
    next = up_to_same refl refl (omega arith)

-- and by a reach, case by case
came_none : (c : ℕ) (l : List ℕ) → CameTo c l 0 0 0
came_none c l = record { within = omega arith; whole = λ z. sym (up_to_none c l); a_tab = λ z. absurd (omega arith); parted = λ z. absurd (omega arith) }

came_on : (c b : ℕ) (l : List ℕ) (n left k : ℕ) → CameTo (c + width c b) l n left k → CameTo c (b ∷ l) (1 + n) left (width c b + k)
came_on c b l n left k t =
    record {
      within = omega (arith, t.within);
      whole = λ z. omega (arith, t.whole z, up_to_on c b l n, one);
      a_tab = λ z. (omega (arith, (t.a_tab z).0), ap (λ (i : ℕ). get_or (b ∷ l) i 0) more ∙ (t.a_tab z).1);
      parted = λ z. (omega (arith, (t.parted z).0, up_to_on c b l n, one), omega (arith, (t.parted z).1, up_to_on c b l (suc n), two));
    }
  where
    more : 1 + n ≡ suc n
    more = omega arith

    one : up_to c (b ∷ l) (1 + n) ≡ up_to c (b ∷ l) (suc n)
    one = up_to_same refl refl (omega arith)

    two : up_to c (b ∷ l) (suc (1 + n)) ≡ up_to c (b ∷ l) (suc (suc n))
    two = up_to_same refl refl (omega arith)

came_part : (m c b : ℕ) (l : List ℕ) → b ≡ 9 → 0 < m → m < to_stop c → CameTo c (b ∷ l) 0 (to_stop c - m) m
came_part m c b l e h s =
    record {
      within = omega arith;
      whole = λ z. absurd (omega arith);
      a_tab = λ z. (omega arith, e);
      parted = λ z.
          (omega (arith, up_to_none c (b ∷ l)), omega (arith, up_to_on c b l 0, up_to_none (c + width c b) l, width_tab c b e));
    }

pub came_to : (max c : ℕ) (l : List ℕ) → CameTo c l (reach max c l).bytes (reach max c l).left (reach max c l).columns
came_to =
    by_cases (λ m c l r. CameTo c l r.bytes r.left r.columns) (λ m c l e. came_none c l)
    (λ m c b l r e h t. came_on c b l r.bytes r.left r.columns t)
    came_part

-- spaces and tabs are replaced by spaces, and nothing else is
spaces_run : (n : ℕ) (l : List ℕ) → leading space_or_tab (replicate n 32 ++ l) ≡ n + leading space_or_tab l
unfolding leading choose space_or_tab or
spaces_run zero l = omega arith
spaces_run (suc n) l = let i = spaces_run n l in omega arith

one_run : (b : ℕ) (l : List ℕ) → leading space_or_tab (b ∷ l) ≡ choose (space_or_tab b) (1 + leading space_or_tab l) 0
unfolding leading choose
one_run b l = go (space_or_tab b)
  where
    go : (z : Bool) → choose z (suc (leading space_or_tab l)) 0 ≡ choose z (1 + leading space_or_tab l) 0
    go true = omega arith
    go false = refl

run_written : (c b : ℕ) (l : List ℕ) → leading space_or_tab (written c b ++ l) ≡ choose (space_or_tab b) (width c b + leading space_or_tab l) 0
unfolding written choose
run_written c b l = go (eqb b 9) refl
  where
    go : (z : Bool) → eqb b 9 ≡ z →
        leading space_or_tab (choose z (replicate (to_stop c) 32) (b ∷ []) ++ l) ≡ choose (space_or_tab b) (width c b + leading space_or_tab l) 0
    go true e = let q : b ≡ 9 = eqb-true _ _ e in rw (tab_blank b q, width_tab c b q) (spaces_run (to_stop c) l)
    go false e = rw (width_space c b (eqb-false _ _ e)) (one_run b l)

-- so the columns in front are as many bytes
pub columns_replaced : (c : ℕ) (l : List ℕ) → columns c l ≡ blanks (replaced c l)
unfolding columns blanks leading
columns_replaced c [] = ap (leading space_or_tab) (sym (replaced_empty c))
columns_replaced c (b ∷ l) =
    ap (λ (n : ℕ). choose (space_or_tab b) (width c b + n) 0) (columns_replaced (c + width c b) l)
    ∙ sym (run_written c b (replaced (c + width c b) l))
    ∙ ap (leading space_or_tab) (sym (replaced_on c b l))

-- a run up to a maximum
run_all : (kind : ℕ → Bool) (max : ℕ) (l : List ℕ) → leading kind l ≤ max → leading kind (take max l) ≡ leading kind l
unfolding leading choose
run_all kind zero l h = omega arith
run_all kind (suc max) [] h = refl
run_all kind (suc max) (b ∷ l) h = go (kind b) h (run_all kind max l)
  where
    go : (z : Bool) → choose z (suc (leading kind l)) 0 ≤ suc max → (leading kind l ≤ max → leading kind (take max l) ≡ leading kind l) →
        choose z (suc (leading kind (take max l))) 0 ≡ choose z (suc (leading kind l)) 0
    go true k f = ap suc (f (omega arith))
    go false k f = refl

run_full : (kind : ℕ → Bool) (max : ℕ) (l : List ℕ) → max ≤ leading kind l → leading kind (take max l) ≡ max
unfolding leading choose
run_full kind zero l h = refl
run_full kind (suc max) [] h = absurd (omega arith)
run_full kind (suc max) (b ∷ l) h = go (kind b) h (run_full kind max l)
  where
    go : (z : Bool) → suc max ≤ choose z (suc (leading kind l)) 0 → (max ≤ leading kind l → leading kind (take max l) ≡ max) →
        choose z (suc (leading kind (take max l))) 0 ≡ suc max
    go true k f = ap suc (f (omega arith))
    go false k f = absurd (omega arith)

pub reach_replaced : (max c : ℕ) (l : List ℕ) → (reach max c l).columns ≡ blanks_up_to max (replaced c l)
unfolding blanks_up_to blanks
reach_replaced max c l = go (leb (columns c l) max) refl
  where
    all : columns c l ≡ leading space_or_tab (replaced c l)
    all = columns_replaced c l

    go : (z : Bool) → leb (columns c l) max ≡ z → (reach max c l).columns ≡ leading space_or_tab (take max (replaced c l))
    go true e =
        let h : columns c l ≤ max = leb-true _ _ e in
        let k : leading space_or_tab (replaced c l) ≤ max = omega (arith, all) in
        columns_all max c l h ∙ all ∙ sym (run_all space_or_tab max (replaced c l) k)
    go false e =
        let h : max < columns c l = leb-false _ _ e in
        let k : max ≤ leading space_or_tab (replaced c l) = omega (arith, all) in
        columns_full max c l (omega arith) ∙ sym (run_full space_or_tab max (replaced c l) k)

-- a line is blank where it was
and_same : (z x y : Bool) → x ≡ y → and z x ≡ and z y
and_same z x y e = cc

spaces_every : (n : ℕ) (l : List ℕ) → every space_or_tab (replicate n 32 ++ l) ≡ every space_or_tab l
unfolding every and space_or_tab or
spaces_every zero l = refl
spaces_every (suc n) l = spaces_every n l

every_written : (c b : ℕ) (l : List ℕ) → every space_or_tab (written c b ++ l) ≡ and (space_or_tab b) (every space_or_tab l)
unfolding written choose every and
every_written c b l = go (eqb b 9) refl
  where
    go : (z : Bool) → eqb b 9 ≡ z → every space_or_tab (choose z (replicate (to_stop c) 32) (b ∷ []) ++ l) ≡ and (space_or_tab b) (every space_or_tab l)
    go true e = let q : b ≡ 9 = eqb-true _ _ e in rw (tab_blank b q) (spaces_every (to_stop c) l)
    go false e = refl

pub blank_replaced : (c : ℕ) (l : List ℕ) → blank (replaced c l) ≡ blank l
unfolding blank every
blank_replaced c [] = ap (every space_or_tab) (replaced_empty c)
blank_replaced c (b ∷ l) =
    ap (every space_or_tab) (replaced_on c b l)
    ∙ every_written c b (replaced (c + width c b) l)
    ∙ and_same (space_or_tab b) _ _ (blank_replaced (c + width c b) l)

-- inside a tab is a space
space_there : (n : ℕ) (l : List ℕ) (i : ℕ) → i < n → get_or (replicate n 32 ++ l) i 0 ≡ 32
space_there n l i h = get_or-append (replicate n 32) l 0 i (omega (arith, length-replicate {A = ℕ} n 32)) ∙ get_or-replicate n i 32 0 h

tab_there : (c b : ℕ) (l : List ℕ) (i : ℕ) → b ≡ 9 → i < width c b → get_or (replaced c (b ∷ l)) i 0 ≡ 32
unfolding replaced choose
tab_there c b l i e h = rw (eq-eqb _ _ e) (space_there (to_stop c) (replaced (c + to_stop c) l) i (omega (arith, width_tab c b e)))

pub inside_tab : (c : ℕ) (l : List ℕ) (n left k : ℕ) → CameTo c l n left k → 0 < left → first (drop k (replaced c l)) ≡ 32
inside_tab c l n left k t h =
    get_or-drop k (replaced c l) 0 0
    ∙ ap (λ (i : ℕ). get_or (replaced c l) i 0) behind_it
    ∙ sym (get_or-drop (up_to c l n) (replaced c l) (k - up_to c l n) 0)
    ∙ ap (λ (m : List ℕ). get_or m (k - up_to c l n) 0) (drop_replaced c l n ∙ replaced_same refl at_it)
    ∙ tab_there (c + up_to c l n) (get_or l n 0) (drop (suc n) l) (k - up_to c l n) (t.a_tab h).1
    (omega (arith, (t.parted h).0, (t.parted h).1, wide))
  where
    behind_it : k + 0 ≡ up_to c l n + (k - up_to c l n)
    behind_it = omega (arith, (t.parted h).0)

    at_it : drop n l ≡ get_or l n 0 ∷ drop (suc n) l
    at_it = drop-cons l n 0 (t.a_tab h).0

    wide : up_to c l (suc n) ≡ up_to c l n + width (c + up_to c l n) (get_or l n 0)
    wide = up_to_wide c l n (t.a_tab h).0

-- the indentation
pub indent_replaced : (options c : ℕ) (l : List ℕ) → (indentation options c l).columns ≡ indentation_before options (replaced c l)
unfolding indentation indentation_before choose reach_all
indent_replaced options c l = go (option_on options 32)
  where
    go : (z : Bool) → (choose z (reach 3 c l) (reach (columns c l) c l)).columns ≡ choose z (blanks_up_to 3 (replaced c l)) (blanks (replaced c l))
    go true = reach_replaced 3 c l
    go false = columns_all (columns c l) c l (omega arith) ∙ columns_replaced c l

pub indent_came : (options c : ℕ) (l : List ℕ) →
    CameTo c l (indentation options c l).bytes (indentation options c l).left (indentation options c l).columns
unfolding indentation choose reach_all
indent_came options c l = go (option_on options 32)
  where
    came : Reach → Type 0
    came r = CameTo c l r.bytes r.left r.columns

    go : (z : Bool) → came (choose z (reach 3 c l) (reach (columns c l) c l))
    go true = came_to 3 c l
    go false = came_to (columns c l) c l

-- more bytes have more columns: each has one at least
up_to_next : (c : ℕ) (l : List ℕ) (n : ℕ) → n < length l → up_to c l n < up_to c l (suc n)
up_to_next c l n h = omega (arith, up_to_wide c l n h, width_least (c + up_to c l n) (get_or l n 0))

up_to_more : (c : ℕ) (l : List ℕ) (n d : ℕ) → n + d ≤ length l → up_to c l n ≤ up_to c l (n + d)
up_to_more c l n zero h = let e : up_to c l (n + 0) ≡ up_to c l n = up_to_same refl refl (omega arith) in omega arith
up_to_more c l n (suc d) h =
    let e : up_to c l (n + suc d) ≡ up_to c l (suc (n + d)) = up_to_same refl refl (omega arith) in
    omega (arith, up_to_more c l n d (omega arith), up_to_next c l (n + d) (omega arith))

-- so where reading came to is one place
module _ {c : ℕ} {l : List ℕ} {n left k : ℕ} (t : CameTo c l n left k) where
  came_least : up_to c l n ≤ k
  came_least = go (eqb left 0) refl
    where
      go : (z : Bool) → eqb left 0 ≡ z → up_to c l n ≤ k
      go true e = omega (arith, t.whole (eqb-true _ _ e))
      go false e = let q = eqb-false left 0 e in let h : 0 < left = omega arith in omega (arith, (t.parted h).0)

  came_below : n < length l → k < up_to c l (suc n)
  came_below h = go (eqb left 0) refl
    where
      go : (z : Bool) → eqb left 0 ≡ z → k < up_to c l (suc n)
      go true e = omega (arith, t.whole (eqb-true _ _ e), up_to_next c l n h)
      go false e = let q = eqb-false left 0 e in let j : 0 < left = omega arith in omega (arith, (t.parted j).1)

module _ {c : ℕ} {l : List ℕ} {n left m left' k : ℕ} (t : CameTo c l n left k) (u : CameTo c l m left' k) where
  came_first : n < m → ⊥
  came_first h =
      let w = u.within in
      let e : up_to c l (suc n + (m - suc n)) ≡ up_to c l m = up_to_same refl refl (omega arith) in
      omega (arith, came_below t (omega arith), up_to_more c l (suc n) (m - suc n) (omega arith), came_least u)

  came_left : n ≡ m → 0 < left → left ≡ left'
  came_left e h = go (eqb left' 0) refl
    where
      here : up_to c l n ≡ up_to c l m
      here = up_to_same refl refl e

      next : up_to c l (suc n) ≡ up_to c l (suc m)
      next = up_to_same refl refl (ap suc e)

      go : (z : Bool) → eqb left' 0 ≡ z → left ≡ left'
      go true q = absurd (omega (arith, here, (t.parted h).0, u.whole (eqb-true _ _ q)))
      go false q = let p = eqb-false left' 0 q in let j : 0 < left' = omega arith in omega (arith, next, (t.parted h).1, (u.parted j).1)

same_left : {c : ℕ} {l : List ℕ} {n left m left' k : ℕ} → CameTo c l n left k → CameTo c l m left' k → n ≡ m → left ≡ left'
same_left {left = left} {left' = left'} t u e = go (eqb left 0) refl (eqb left' 0) refl
  where
    go : (y : Bool) → eqb left 0 ≡ y → (z : Bool) → eqb left' 0 ≡ z → left ≡ left'
    go false p z q = let a = eqb-false left 0 p in let h : 0 < left = omega arith in came_left t u e h
    go true p false q = let a = eqb-false left' 0 q in let h : 0 < left' = omega arith in sym (came_left u t (sym e) h)
    go true p true q = let a = eqb-true left 0 p in let b = eqb-true left' 0 q in omega arith

pub came_only : CameOnly
came_only c l n left m left' k t u = go (ltb n m) refl (ltb m n) refl
  where
    go : (y : Bool) → ltb n m ≡ y → (z : Bool) → ltb m n ≡ z → (n ≡ m) × (left ≡ left')
    go true p z q = absurd (came_first t u (ltb-true _ _ p))
    go false p true q = absurd (came_first u t (ltb-true _ _ q))
    go false p false q =
        let a : m ≤ n = ltb-false _ _ p in
        let b : n ≤ m = ltb-false _ _ q in
        let e : n ≡ m = omega arith in
        (e, same_left t u e)
