-- What is true of the resolvers where they accept, from the claims of the three calls.
-- Assumes nothing.
use Prim.Native.Nat.{◌≤◌}
use native.Mathlib.Omega.{arith}
use mathlib.Core.Path.{◌≡◌}
use mathlib.Core.Bool.{true}
use lib.ListN.{length}
use Rattle.record.specs.Handed.{form_of, options_of}
use Rattle.record.specs.Rows.{document_count_in}
use Rattle.record.specs.Sound.{sound}
use Rattle.record.specs.Written.{by_check}
use Rattle.runs.specs.Output.{output}
use Rattle.output.proofs.SoundOutput.{output_sound}
use Rattle.output.proofs.OthersStay.{others_kept}
use Rattle.heading.proofs.Resound.{resolved_sound}
use Rattle.heading.proofs.Kept.{outside_kept}
use Rattle.heading.proofs.ResultAsSaid.{result_as_said}
use Rattle.list.proofs.Added.{listing}
use Rattle.list.proofs.Nesting.{nested}
use Rattle.list.proofs.Gathering.{result_gathered}
use Rattle.list.proofs.Linked.{result_linked}
use Rattle.claims.specs.Records.{doc_of, all_events}
use Rattle.claims.specs.Accepted.{AcceptedAttention, AcceptedHeadings, AcceptedLists}
use Rattle.claims.proofs.Records.{no_row_sound, attention_claim, headings_claim, lists_claim}
use Rattle.claims.proofs.Matcher.{made_output, accepted_as_the_plain_rule}

pub accepted_attention : AcceptedAttention
accepted_attention profile h s out work r out' work' p z =
    let a = (attention_claim profile h s).accepts out work r out' work' p z in
    let none = ((attention_claim profile h s).exactly out work r out' work' p).none_holds z in
    let long = (no_row_sound h s (length work) (λ n q x. none n q (by_check x))).0 in
    let good = (accepted_as_the_plain_rule profile h s out work r out' work' p z).record_good in
    let same = made_output profile h s a.events a.made_so in
    let whole : length (output profile (options_of h s) (doc_of h s) (all_events h s)) ≤ length (output profile (options_of h s) (doc_of h s) (all_events h s)) = omega arith in
    let over = output_sound profile (options_of h s) (doc_of h s) (all_events h s) 64 good (length (output profile (options_of h s) (doc_of h s) (all_events h s))) whole in
    let nests : sound (length (output profile (options_of h s) (doc_of h s) (all_events h s))) (document_count_in (form_of h) s) (output profile (options_of h s) (doc_of h s) (all_events h s)) ≡ true = rw long at over in
    record { accepted = a; nests = rw same nests; kept = rw same (others_kept profile (options_of h s) (doc_of h s) (all_events h s)) }

pub accepted_headings : AcceptedHeadings
accepted_headings h s out work r out' work' p z =
    let a = (headings_claim h s).accepts out work r out' work' p z in
    let none = ((headings_claim h s).exactly out work r out' work' p).none_holds z in
    let good = (no_row_sound h s (length work) (λ n q x. none n q (by_check x))).1 in
    record {
      accepted = a;
      nests = resolved_sound (all_events h s) a.events 64 (document_count_in (form_of h) s) good a.made_so;
      kept = outside_kept (all_events h s) a.events a.made_so;
      texts = result_as_said.said (all_events h s) a.events 64 (document_count_in (form_of h) s) good a.made_so;
    }

pub accepted_lists : AcceptedLists
accepted_lists h s out work r out' work' p z =
    let a = (lists_claim h s).accepts out work r out' work' p z in
    let none = ((lists_claim h s).exactly out work r out' work' p).none_holds z in
    let good = (no_row_sound h s (length work) (λ n q x. none n q (by_check x))).1 in
    record {
      accepted = a;
      nests = nested (document_count_in (form_of h) s) (doc_of h s) (all_events h s) a.events good a.made_so;
      kept = listing 64 (document_count_in (form_of h) s) (doc_of h s) (all_events h s) a.events good a.made_so;
      gathered = result_gathered 64 (document_count_in (form_of h) s) (doc_of h s) (all_events h s) a.events good a.made_so;
      linked = result_linked 64 (document_count_in (form_of h) s) (doc_of h s) (all_events h s) a.events good a.made_so;
    }
