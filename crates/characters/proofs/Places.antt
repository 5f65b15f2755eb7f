-- A character is found beside a place just where its form stands there: the laws of specs/Laws.antt on beginning and ending.
-- Assumes nothing.
use Prim.Native.Nat.{ℕ, suc, ◌+◌, ◌-◌, ◌≤◌}
use mathlib.Core.Path.{◌≡◌, refl, sym, ap, subst, ◌∙◌}
use mathlib.Core.Bool.{true}
use Rattle.std.specs.Prelude.{Option, None, Some}
use native.Mathlib.Omega.{arith}
use lib.ListN.{length, get_or, take, drop, take-append-drop, length-append}
use lib.Seq.{take-append_seam, drop_at, length-take-le}
use Rattle.characters.specs.Utf8.{character_of, is_character, utf8}
use Rattle.characters.specs.Beside.{character_from, character_up_to, found}
use Rattle.characters.specs.Beside.{Neighbour, Edge, Character, Malformed}
use Rattle.characters.specs.Laws.{Form, FoundBegins, BeginsFound, FoundEnds, EndsFound, CharacterAfter, CharacterBefore, MalformedAfter, MalformedBefore}
use Rattle.characters.proofs.Forms.{Lead, Shape, form_shape}
use Rattle.characters.proofs.Leads.{shape_lead, lead_few, same_lead}
use Rattle.characters.proofs.Parts.{found_part}
use Rattle.characters.proofs.Sides.{first_bytes, from_lead, from_place, last_bytes, Trailing, up_to_trailing, up_to_place, same_trailing}
use Rattle.characters.proofs.Decoding.{decoded_is_form, form_is_decoded}
use Rattle.characters.proofs.Neighbours.{after_found, before_found}

pub found_begins : FoundBegins
unfolding character_from
found_begins doc at c e =
    let m : (k : ℕ) × (character_of (first_bytes doc at k) ≡ Some c) = found_part (first_bytes doc at) c e in
    let f : Form (first_bytes doc at m.0) c = decoded_is_form (first_bytes doc at m.0) c m.1 in
    record {
      character = f.character;
      behind = drop m.0 (drop at doc);
      stands = rw f.bytes (sym (take-append-drop m.0 (drop at doc)));
    }

pub found_ends : FoundEnds
unfolding character_up_to
found_ends doc at c e =
    let m : (k : ℕ) × (character_of (last_bytes doc at k) ≡ Some c) = found_part (last_bytes doc at) c e in
    let f : Form (last_bytes doc at m.0) c = decoded_is_form (last_bytes doc at m.0) c m.1 in
    record {
      character = f.character;
      before = take (at - m.0) (take at doc);
      stands = rw f.bytes (sym (take-append-drop (at - m.0) (take at doc)));
    }

-- a character's form decodes to it, has the shape of a form, and one to four bytes
module _ (c : ℕ) (is : is_character c ≡ true) where
  decodes : character_of (utf8 c) ≡ Some c
  decodes = form_is_decoded (utf8 c) c (record { character = is; bytes = refl })

  shaped : Shape (utf8 c)
  shaped = form_shape (utf8 c) c decodes

  few : (1 ≤ length (utf8 c)) × (length (utf8 c) ≤ 4)
  few = lead_few (length (utf8 c)) (get_or (utf8 c) 0 0) (shape_lead (utf8 c) shaped)

pub begins_found : BeginsFound
begins_found doc at c b =
    let n : ℕ = length (utf8 c) in
    let e : first_bytes doc at n ≡ utf8 c = ap (take n) b.stands ∙ take-append_seam (utf8 c) b.behind in
    let lead : Lead n (get_or doc at 0) = rw e at (from_lead doc at n (rw e (shaped c b.character))) in
    from_place doc at n (few c b.character).0 (few c b.character).1 (λ k w. same_lead k n (get_or doc at 0) w lead)
    ∙ ap character_of e
    ∙ decodes c b.character

pub ends_found : EndsFound
ends_found doc at c h b =
    let n : ℕ = length (utf8 c) in
    let long : at ≡ length b.before + n = sym (length-take-le at doc h) ∙ ap length b.stands ∙ length-append b.before (utf8 c) in
    let e : last_bytes doc at n ≡ utf8 c = ap (drop (at - n)) b.stands ∙ drop_at b.before (utf8 c) (at - n) (omega arith) in
    let t : Trailing doc at n = rw e at (up_to_trailing doc at h n (rw e (shaped c b.character))) in
    up_to_place doc at h n (few c b.character).0 (few c b.character).1 (λ k s. same_trailing doc at k n s t)
    ∙ ap character_of e
    ∙ decodes c b.character

unfoldable character_or : Neighbour → ℕ
character_or Edge = 0
character_or (Character c) = c
character_or Malformed = 0

unfoldable is_some : Neighbour → Type 0
is_some Edge = ⊥
is_some (Character c) = Unit {0}
is_some Malformed = ⊥

found_some : (o : Option ℕ) (c : ℕ) → found o ≡ Character c → o ≡ Some c
unfolding is_some character_or
found_some None c e = absurd (subst is_some (sym e) tt)
found_some (Some d) c e = ap Some (ap character_or e)

pub character_after : CharacterAfter
character_after doc at c h = (
  λ e. found_begins doc at c (found_some (character_from doc at) c (sym (after_found doc at h) ∙ e)),
  λ b. after_found doc at h ∙ ap found (begins_found doc at c b),
)

pub character_before : CharacterBefore
character_before doc at c h = (
  λ e. found_ends doc (suc at) c (found_some (character_up_to doc (suc at)) c (sym (before_found doc (suc at) (omega arith) h) ∙ e)),
  λ b. before_found doc (suc at) (omega arith) h ∙ ap found (ends_found doc (suc at) c h b),
)

-- where no character is found
none_found : (o : Option ℕ) → ((c : ℕ) → o ≡ Some c → ⊥) → found o ≡ Malformed
none_found None n = refl
none_found (Some c) n = absurd (n c refl)

pub malformed_after : MalformedAfter
malformed_after doc at h n = after_found doc at h ∙ none_found (character_from doc at) (λ c e. n c (found_begins doc at c e))

pub malformed_before : MalformedBefore
malformed_before doc at h n = before_found doc (suc at) (omega arith) h ∙ none_found (character_up_to doc (suc at)) (λ c e. n c (found_ends doc (suc at) c e))
