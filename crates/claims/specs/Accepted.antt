-- What is true of the three resolvers where they accept, in words that need no look at them: what is written is sound over the same document, so
-- that nothing in it crosses, and what the record had beside is kept. proofs/Accepted.antt proves it. What is true of attention's groups is on the
-- page of demand 3.
-- Assumes nothing.
use Rattle.std.specs.Prelude.{ℕ, ◌≡◌, true, List, length}
use Rattle.record.specs.Handed.{form_of, options_of}
use Rattle.record.specs.Rows.{document_count_in}
use Rattle.record.specs.Sound.{sound}
use Rattle.record.specs.declared.form.Handed.{Handed}
use Rattle.runs.specs.Rule.{Profile}
use Rattle.runs.specs.Pieces.{outcome}
use Rattle.output.specs.Others.{others, Among}
use Rattle.attention.specs.Attention.{attention}
use Rattle.heading.specs.Headings.{headings}
use Rattle.heading.specs.Outside.{outside}
use Rattle.heading.specs.Text.{WithTexts}
use Rattle.list.specs.Lists.{lists}
use Rattle.list.specs.Listing.{Listing}
use Rattle.list.specs.Gathered.{Gathered, OneListWhereLinked}
use Rattle.ledgerlark.specs.Answers.{AttentionBy, HeadingsBy, ListsBy}
use Rattle.ledgerlark.specs.declared.resolve.LarkResolved.{LarkResolved}
use Rattle.claims.specs.Records.{doc_of, all_events, Accepts}

-- attention, in any profile: the result is sound, with room for all of its events to be open, and the events that are no run's are there, in their order
pub record AttentionNests (profile : Profile) (h : Handed) (s : List ℕ) (out : List ℕ) (r : LarkResolved) (out' : List ℕ) : Type 0 where
  pub accepted : Accepts (form_of h) (attention profile (options_of h s) (doc_of h s) (all_events h s)) (length (outcome profile (options_of h s) (doc_of h s) (all_events h s)).groups)
      (outcome profile (options_of h s) (doc_of h s) (all_events h s)).tried out r out'
  pub nests : sound (length accepted.events) (document_count_in (form_of h) s) accepted.events ≡ true
  pub kept : Among (others (all_events h s)) accepted.events

abbrev pub AcceptedAttention : Type 0
AcceptedAttention =
    (profile : Profile) (h : Handed) (s : List ℕ) (out work : List ℕ) (r : LarkResolved) (out' work' : List ℕ) →
    AttentionBy profile h s out work r out' work' → r.number ≡ 0 → AttentionNests profile h s out r out'

-- headings: the result is sound, at most one event deeper than a record may be, and its events outside headings are those of the record; in each heading
-- stands what document 01's words say of its inner events, part by part
pub record HeadingsNest (h : Handed) (s out : List ℕ) (r : LarkResolved) (out' : List ℕ) : Type 0 where
  pub accepted : Accepts (form_of h) (headings (all_events h s)) 0 0 out r out'
  pub nests : sound 65 (document_count_in (form_of h) s) accepted.events ≡ true
  pub kept : outside accepted.events ≡ outside (all_events h s)
  pub texts : WithTexts (all_events h s) accepted.events

abbrev pub AcceptedHeadings : Type 0
AcceptedHeadings =
    (h : Handed) (s : List ℕ) (out work : List ℕ) (r : LarkResolved) (out' work' : List ℕ) →
    HeadingsBy h s out work r out' work' → r.number ≡ 0 → HeadingsNest h s out r out'

-- lists: the result is sound, at most twice as deep as a record may be, and it is the record's events with lists added, each round an item; what is
-- added is what document 01's words over event numbers say, and two items stand in one list exactly where a chain of neighbours links them
pub record ListsNest (h : Handed) (s out : List ℕ) (r : LarkResolved) (out' : List ℕ) : Type 0 where
  pub accepted : Accepts (form_of h) (lists (doc_of h s) (all_events h s)) 0 0 out r out'
  pub nests : sound 128 (document_count_in (form_of h) s) accepted.events ≡ true
  pub kept : Listing (all_events h s) accepted.events
  pub gathered : Gathered (doc_of h s) (all_events h s) 0 accepted.events
  pub linked : OneListWhereLinked (doc_of h s) (all_events h s) accepted.events

abbrev pub AcceptedLists : Type 0
AcceptedLists =
    (h : Handed) (s : List ℕ) (out work : List ℕ) (r : LarkResolved) (out' work' : List ℕ) →
    ListsBy h s out work r out' work' → r.number ≡ 0 → ListsNest h s out r out'
