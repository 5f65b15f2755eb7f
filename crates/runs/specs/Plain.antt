-- The plain rule, over the list of all runs and over any rule of eligibility. Document 01, section "Attention": "Closers are taken in order;
-- each looks back for the nearest earlier run that has markers left and can open, with equal marker and container, and skips it if .. A match
-- takes 2 from each if both have at least 2, else 1; runs between lose open; a closer with markers left is tried again."
-- CommonMark 0.31 says it by §6.2's rules 9 to 17, and in its appendix ("An algorithm for parsing nested emphasis and links") by the procedure
-- "process emphasis" over a delimiter stack. Both are quoted over the definitions that render them. The list of runs stands for the stack: what
-- the procedure removes has no markers left here, or can't open. `openers_bottom`, which "puts a lower bound on future searches", has no part:
-- a search looks at all earlier runs. Under amendment D5 such a bound would be wrong, since an opener can become eligible later.
-- One step finds the next match and changes the list; the steps are counted by the markers left, of which each match takes some.
-- Assumes nothing.
use Rattle.std.specs.Prelude.{ℕ, zero, suc, ◌+◌, ◌-◌, Bool, true, false, List, [], ◌∷◌, ◌++◌, length, get_or, eqb, ltb, leb}
use Rattle.std.proofs.Math.Option.{Option, none, some}
use Rattle.record.specs.Choice.{choose, and}
use Rattle.runs.specs.declared.Next.{Next}
use Rattle.runs.specs.declared.Next.TheVariants.{Match, Done}
use Rattle.runs.specs.Rule.{Side, Rule}

-- a run as it stands between two matches: how large it is, what is left of it, whether it can still open, and whether it can close. Appendix:
-- an element of the stack has "the type of delimiter", "the number of delimiters", and "whether the delimiter is a potential opener, a
-- potential closer, or both"
pub record Standing : Type 0 where
  pub marker : ℕ
  pub container : Option ℕ
  pub whole : ℕ
  pub left : ℕ
  pub opens : Bool
  pub closes : Bool

abbrev pub nowhere : Standing
nowhere = record { marker = 0; container = none; whole = 0; left = 0; opens = false; closes = false }

-- the run of number j among these
abbrev pub at : List Standing → ℕ → Standing
at rs j = get_or rs j nowhere

abbrev pub side_of : Standing → Side
side_of r = record { whole = r.whole; left = r.left; both = and r.opens r.closes }

-- "has markers left and can open"
unfoldable pub opener : Standing → Bool
opener r = and (ltb 0 r.left) r.opens

-- a closer has markers left and can close
unfoldable pub closer : Standing → Bool
closer r = and (ltb 0 r.left) r.closes

-- Rule 17: "Inline code spans, links, images, and HTML tags group more tightly than emphasis." Appendix: "Parameter `stack_bottom` sets a lower
-- bound to how far we descend in the delimiter stack", and for the inlines of a link it is the link's `[`. Here a container bounds the search.
unfoldable pub same_container : Option ℕ → Option ℕ → Bool
same_container none none = true
same_container none (some b) = false
same_container (some a) none = false
same_container (some a) (some b) = eqb a b

-- "Candidates tried: .. the earlier runs looked at that have markers left and can open with equal marker and container". Rule 9: "Emphasis begins
-- with a delimiter that can open emphasis and ends with a delimiter that can close emphasis, and that uses the same character (`_` or `*`) as the
-- opening delimiter." Rule 10 says the same of strong emphasis.
unfoldable pub candidate : Standing → Standing → Bool
candidate o c = and (opener o) (and (eqb o.marker c.marker) (same_container o.container c.container))

-- whether the closer takes the opener, by the rule: the last sentence of rules 9 and 10, on multiples of 3, and GFM's on tildes, each quoted in
-- specs/Rule.antt, where amendments D5 and D7 stand
unfoldable pub takes : Rule → Standing → Standing → Bool
takes rule o c = rule c.marker (side_of o) (side_of c)

-- what a search finds: an opener and how many were tried, or only that
pub data Look : Type 0 where
  hit : ℕ → ℕ → Look
  miss : ℕ → Look

-- by cases
abbrev pub settle : {A : Type 0} → Look → (ℕ → ℕ → A) → (ℕ → A) → A
settle (hit o t) f g = f o t
settle (miss t) f g = g t

-- "each looks back for the nearest earlier run": back over the first j runs for the closer c, t tried before, "the matched one included".
-- Appendix: "look back in the stack .. for the first matching potential opener". Rule 16: "When there are two potential emphasis or strong
-- emphasis spans with the same closing delimiter, the shorter one (the one that opens later) takes precedence."
unfoldable pub back : Rule → ℕ → List Standing → ℕ → ℕ → Look
back rule zero rs c t = miss t
back rule (suc j) rs c t =
    let skipped = back rule j rs c (t + 1) in
    let untried = back rule j rs c t in
    choose (candidate (at rs j) (at rs c)) (choose (takes rule (at rs j) (at rs c)) (hit j (t + 1)) skipped) untried

-- at the run c: where it closes it looks back over all earlier runs. Rule 9: "The opening and closing delimiters must belong to separate
-- delimiter runs."
unfoldable pub look : Rule → List Standing → ℕ → ℕ → Look
look rule rs c t =
    let found = back rule c rs c t in
    choose (closer (at rs c)) found (miss t)

-- "Closers are taken in order": onward over m runs from c, to the first that finds an opener. Appendix: "Move `current_position` forward in the
-- delimiter stack (if needed) until we find the first potential closer"; "If none is found: .. Advance `current_position` to the next element in
-- the stack." Rule 15: "When two potential emphasis or strong emphasis spans overlap, so that the second begins before the first ends and ends
-- after the first ends, the first takes precedence."
unfoldable pub forth : Rule → ℕ → List Standing → ℕ → ℕ → Next
forth rule zero rs c t = Done t
forth rule (suc m) rs c t = settle (look rule rs c t) (λ o u. Match o c u) (λ u. forth rule m rs (c + 1) u)

-- the next match from the run c on
abbrev pub next : Rule → List Standing → ℕ → Next
next rule rs c = forth rule (length rs - c) rs c 0

-- "A match takes 2 from each if both have at least 2, else 1". Appendix: "if both closer and opener spans have length >= 2, we have strong,
-- otherwise regular." Rule 13: "The number of nestings should be minimized." Rule 14: "An interpretation `<em><strong>...</strong></em>` is always
-- preferred to `<strong><em>...</em></strong>`": what is taken first is the inner one.
unfoldable pub amount : ℕ → ℕ → ℕ
amount a b = choose (and (leb 2 a) (leb 2 b)) 2 1

abbrev pub taken_by : List Standing → ℕ → ℕ → ℕ
taken_by rs o c = amount (at rs o).left (at rs c).left

-- a change of each run by its number, the first of which is j
unfoldable pub alter : ℕ → (ℕ → Standing → Standing) → List Standing → List Standing
alter j f [] = []
alter j f (r ∷ rs) = f j r ∷ alter (j + 1) f rs

-- what a match of o and c that takes k makes of the run q: opener and closer lose k markers, "runs between lose open". Appendix: "Remove any
-- delimiters between the opener and closer from the delimiter stack." "Remove 1 (for regular emph) or 2 (for strong emph) delimiters from the
-- opening and closing text nodes." A run between may keep that it closes: its turn as a closer is over.
abbrev pub change : ℕ → ℕ → ℕ → ℕ → Standing → Standing
change o c k q r =
    record {
      marker = r.marker;
      container = r.container;
      whole = r.whole;
      left = choose (eqb q o) (r.left - k) (choose (eqb q c) (r.left - k) r.left);
      opens = choose (and (ltb o q) (ltb q c)) false r.opens;
      closes = r.closes;
    }

unfoldable pub matched : List Standing → ℕ → ℕ → List Standing
matched rs o c = alter 0 (change o c (taken_by rs o c)) rs

-- a group: the numbers of its opener and its closer among the runs, and how many markers it took from each
pub record Group : Type 0 where
  pub opener : ℕ
  pub closer : ℕ
  pub taken : ℕ

abbrev pub group : ℕ → ℕ → ℕ → Group
group o c k = record { opener = o; closer = c; taken = k }

-- the group of number g among these
abbrev pub group_at : List Group → ℕ → Group
group_at gs g = get_or gs g (group 0 0 0)

-- what all matches come to: the groups in match order, the candidates tried over all searches, and the runs as they stand in the end
pub record Outcome : Type 0 where
  pub groups : List Group
  pub tried : ℕ
  pub runs : List Standing

-- by cases
abbrev pub ends : {A : Type 0} → Next → (ℕ → ℕ → ℕ → A) → (ℕ → A) → A
ends (Match o c t) f g = f o c t
ends (Done t) f g = g t

-- at most k matches more, from the run c on, after the groups gs and t tried: "a closer with markers left is tried again". Appendix: "we repeat
-- the following until we run out of potential closers"; only "If the closing node is removed", having become empty, does the position go on
unfoldable pub rounds : ℕ → Rule → List Standing → ℕ → List Group → ℕ → Outcome
rounds zero rule rs c gs t = record { groups = gs; tried = t; runs = rs }
rounds (suc k) rule rs c gs t =
    ends (next rule rs c)
    (λ o d u. rounds k rule (matched rs o d) d (gs ++ (group o d (taken_by rs o d) ∷ [])) (t + u))
    (λ u. record { groups = gs; tried = t + u; runs = rs })

-- the markers left
unfoldable pub total : List Standing → ℕ
total [] = 0
total (r ∷ rs) = r.left + total rs

-- the plain rule: every match takes a marker, so more matches than markers there are not
unfoldable pub plain : Rule → List Standing → Outcome
plain rule rs = rounds (total rs + 1) rule rs 0 [] 0
