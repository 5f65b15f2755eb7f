-- What is true of partners, in every balanced list of events, of any depth. Together these say what a partner is without the walk by which
-- crates/record/specs/Partners.antt computes it. proofs/Laws.antt and proofs/Carried.antt prove them.
-- Assumes nothing.
use Rattle.std.specs.Prelude.{ℕ, ◌+◌, ◌-◌, ◌≤◌, ◌<◌, ◌≡◌, true, List, length, get_or, take, drop}
use Rattle.record.specs.Event.{events_in}
use Rattle.record.specs.Good.{GoodIn}
use Rattle.record.specs.Partners.{balanced, partners}
use Rattle.record.specs.Sound.{sound}
use Rattle.record.specs.Stack.{nth}
use Rattle.record.specs.declared.event.Event.{Event}
use Rattle.record.specs.declared.form.Form.{Form}
use Rattle.partners.specs.Fields.{fields_by}

-- the partner of event k
abbrev pub partner_of : List Event → ℕ → ℕ
partner_of es k = get_or (partners es) k 0

-- a list that is sound, with room for any number of open events, is balanced: so all that follows holds of a good record's events and of every
-- resolver's
abbrev pub SoundIsBalanced : Type 0
SoundIsBalanced = (deep d : ℕ) (es : List Event) → sound deep d es ≡ true → balanced es ≡ true

-- each event has a partner in the list, and is its partner's partner
abbrev pub PartnerOfPartner : Type 0
PartnerOfPartner =
    (es : List Event) → balanced es ≡ true → (k : ℕ) → k < length es → (partner_of es k < length es) × (partner_of es (partner_of es k) ≡ k)

-- event k enters, event q exits later, and of those between each is closed between
pub record Closes (es : List Event) (k q : ℕ) : Type 0 where
  pub order : k < q
  pub inside : q < length es
  pub enters : (nth es k).kind ≡ 0
  pub exits : (nth es q).kind ≡ 0 → ⊥
  pub between : balanced (take (q - (k + 1)) (drop (k + 1) es)) ≡ true

-- an enter's partner is the exit that closes it, and an exit's partner the enter that it closes
abbrev pub EnterToExit : Type 0
EnterToExit =
    (es : List Event) → balanced es ≡ true → (k : ℕ) → k < length es →
    ((nth es k).kind ≡ 0 → Closes es k (partner_of es k)) × (((nth es k).kind ≡ 0 → ⊥) → Closes es (partner_of es k) k)

-- and no other exit closes it: an enter and an exit that stand so are partners
abbrev pub OnlyOneCloses : Type 0
OnlyOneCloses = (es : List Event) → balanced es ≡ true → (k q : ℕ) → Closes es k q → (partner_of es k ≡ q) × (partner_of es q ≡ k)

-- partners have one name
abbrev pub PartnersShareAName : Type 0
PartnersShareAName = (deep d : ℕ) (es : List Event) → sound deep d es ≡ true → (k : ℕ) → k < length es → (nth es (partner_of es k)).name ≡ (nth es k).name

-- a good record whose events carry numbers carries their partners, every one
abbrev pub GoodCarriesPartners : Type 0
GoodCarriesPartners =
    (f : Form) (s : List ℕ) (d e : ℕ) → 12 ≤ f.width → GoodIn f s d e →
    fields_by f.width e s (8 + f.front + d) ≡ partners (events_in f s d e)
