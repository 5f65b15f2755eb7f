-- Laws of a section that is being written: nothing put, and some events put and then more; and that what is ready for all is ready for each part.
-- Assumes nothing.
use mathlib.Core.Path.{refl, ◌∙◌}
use mathlib.Core.List.{List, [], ◌∷◌, ◌++◌}
use Rattle.record.specs.declared.event.Event.{Event}
use Rattle.partners.specs.Section.{Ready, Puts}
use Rattle.partners.specs.declared.Section.{Section}
use Rattle.partners.proofs.Pens.{put_none, put_then, fits_first, fits_then}

pub puts_none : (s : Section) → Puts s [] s
puts_none s = record { same_reference = refl; put = put_none s.out.now s.pen }

pub puts_then : {s s₁ s₂ : Section} (fs gs : List Event) → Puts s fs s₁ → Puts s₁ gs s₂ → Puts s (fs ++ gs) s₂
puts_then fs gs u v = record { same_reference = v.same_reference ∙ u.same_reference; put = put_then fs gs u.put v.put }

pub ready_first : {s : Section} (fs gs : List Event) → Ready s (fs ++ gs) → Ready s fs
ready_first fs gs r = record { fits = fits_first fs gs r.fits }

pub ready_then : {s s₁ : Section} (fs gs : List Event) → Puts s fs s₁ → Ready s (fs ++ gs) → Ready s₁ gs
ready_then fs gs u r = record { fits = fits_then fs gs u.put r.fits }

-- the same of one event and those behind it: the form for a run of calls
pub puts_one : {s s₁ s₂ : Section} {e : Event} {gs : List Event} → Puts s (e ∷ []) s₁ → Puts s₁ gs s₂ → Puts s (e ∷ gs) s₂
puts_one {e = e} {gs = gs} u v = puts_then (e ∷ []) gs u v

pub ready_one : {s : Section} {e : Event} {gs : List Event} → Ready s (e ∷ gs) → Ready s (e ∷ [])
ready_one {e = e} {gs = gs} r = ready_first (e ∷ []) gs r

pub ready_rest : {s s₁ : Section} {e : Event} {gs : List Event} → Puts s (e ∷ []) s₁ → Ready s (e ∷ gs) → Ready s₁ gs
ready_rest {e = e} {gs = gs} u r = ready_then (e ∷ []) gs u r
