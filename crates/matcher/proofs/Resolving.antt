-- All closers, turn by turn. Invariant: for all runs that the memory had at the start there are runs and groups that it has now, from which the
-- plain rule comes to the same. Measure: the runs left.
-- Assumes nothing.
use Prim.Native.Nat.{ℕ, ◌+◌, ◌-◌, ◌*◌, ◌<◌, ◌≤◌}
use mathlib.Core.Path.{◌≡◌, refl, ◌∙◌, sym}
use mathlib.Core.List.{List, []}
use native.Mathlib.Omega.{arith}
use lib.ListN.{length}
use Rattle.std.specs.Prelude.{Result, Ok, Err}
use Rattle.runs.specs.Rule.{Rule}
use Rattle.runs.specs.Plain.{Standing, Group, rounds, total, plain}
use Rattle.matcher.specs.declared.closers.Closed.{Closed}
use Rattle.matcher.specs.declared.closers.TooMany.{TooMany}
use Rattle.matcher.specs.Chains.{latest, openers}
use Rattle.matcher.specs.Groups.{first_closed, last_opened}
use Rattle.matcher.specs.State.{Fresh, Ready}
use Rattle.matcher.specs.Closer.{Finish, closer_from}
use Rattle.matcher.specs.Along.{along, chained, groups_at}
use Rattle.matcher.specs.Promise.{Begun, ClosedAs, Handles, Loaded, Answered}
use Rattle.matcher.proofs.Order.{ready_order}
use Rattle.matcher.proofs.Rounds.{rounds_finish, rounds_longer, rounds_end}

-- before the first match all is ready at the first run
pub fresh_ready : (w : List ℕ) (rs : List Standing) (n : ℕ) → Fresh w rs n → Ready w 0 rs [] n 0
unfolding latest openers first_closed last_opened
fresh_ready w rs n f =
    record {
      room = f.room;
      few = f.few;
      within = omega arith;
      falls = f.falls;
      chains = f.chains;
      reads = f.reads;
      listed = record { heads = f.heads; links = λ j h o. absurd (omega arith); high = refl; stack = λ j h o. absurd (omega arith) };
      grouped =
          record {
            opener = λ g h. absurd (omega arith);
            closer = λ g h. absurd (omega arith);
            taken = λ g h. absurd (omega arith);
            earlier = λ g h. absurd (omega arith);
            first = f.first;
            latest = f.latest;
            fits = omega arith;
          };
    }

pub record Resolving (rule : Rule) (rs : List Standing) (n : ℕ) (w : List ℕ) (from height groups tried : ℕ) : Type 0 where
  pub runs : List Standing
  pub made : List Group
  pub ready : Ready w height runs made n from
  pub size : length made ≡ groups
  pub same : plain rule rs ≡ rounds (total runs + 1) rule runs from made tried
  pub few : tried ≤ (groups + from) * 1048576

pub record Resolves (rule : Rule) (w₀ : List ℕ) (n : ℕ) (w : List ℕ) (from height groups tried : ℕ) : Type 0 where
  pub of : (rs : List Standing) → Fresh w₀ rs n → Resolving rule rs n w from height groups tried
  pub len : length w ≡ length w₀
  pub turns : ℕ
  pub enough : n - from < turns
  pub way : chained rule w₀ n ≡ along turns rule w height n from groups tried

pub resolve_start : {rule : Rule} {w : List ℕ} {n : ℕ} → Resolves rule w n w 0 0 0 0
unfolding plain chained
resolve_start {rule} {w} {n} =
    record { of = λ rs r. record { runs = rs; made = []; ready = fresh_ready w rs n r; size = refl; same = refl; few = omega arith }; len = refl; turns = n + 1; enough = omega arith; way = refl }

pub resolve_loaded : {rule : Rule} {w₀ : List ℕ} {n : ℕ} {w : List ℕ} {from height groups tried : ℕ} → Resolves rule w₀ n w from height groups tried → (l : Loaded w₀ n)
    → Resolving rule l.runs n w from height groups tried
resolve_loaded k l = k.of l.runs l.fresh

module _ {rule : Rule} {rs : List Standing} {n : ℕ} {w : List ℕ} {from height groups tried : ℕ} (g : Resolving rule rs n w from height groups tried) where
  pub resolve_begun : from < n → Begun w height n from groups tried
  resolve_begun h = record { order = ready_order w height g.runs g.made n from g.ready; more = h; room = let f = g.ready.grouped.fits in let s = g.size in omega arith; few = g.few }

  long : length g.runs ≡ n
  long = g.ready.reads.len

  -- the plain rule from where the closer is finished
  abbrev f : Finish
  f = closer_from rule g.runs from g.made tried

  on : plain rule rs ≡ rounds (total f.runs + 1) rule f.runs f.next f.groups f.tried
  unfolding closer_from
  on = g.same ∙ rounds_finish rule (total g.runs + 1) g.runs from (length g.runs) g.made tried (omega (arith, long, g.ready.within)) (omega arith) (omega arith)

  module _ {step : Result Closed TooMany} {w₁ : List ℕ} (s : Handles rule w height n from groups tried step w₁) where
    pub resolve_full : {x : TooMany} → step ≡ Err x → 1000 < length (plain rule rs).groups
    resolve_full e =
        let a : 1000 < length f.groups = rw e at (s.of g.runs g.made g.ready g.size) in
        rw on (omega (arith, rounds_longer rule (total f.runs + 1) f.runs f.next f.groups f.tried))

    module _ {c : Closed} (e : step ≡ Ok c) where
      closed : ClosedAs f n from c.next c.height c.groups c.tried w₁
      closed = rw e at (s.of g.runs g.made g.ready g.size)

      pub resolve_on : from < c.next
      resolve_on = omega (arith, closed.onward, closed.at)

      pub resolve_within : c.next ≤ n
      resolve_within = omega (arith, closed.ready.within, closed.at)

      pub resolve_again : Resolving rule rs n w₁ c.next c.height c.groups c.tried
      resolve_again =
          record {
            runs = f.runs;
            made = f.groups;
            ready = rw closed.at closed.ready;
            size = sym closed.made;
            same = rw (closed.at, closed.count) on;
            few = closed.few;
          }

  pub resolve_end : n ≤ from → Answered rule rs n (Ok (groups_at groups tried)) w
  resolve_end h =
      rw (g.same ∙ rounds_end rule (total g.runs) g.runs from g.made tried (omega (arith, long)))
      (record { made = sym g.size; count = refl; grouped = g.ready.grouped; reads = g.ready.reads; fits = g.ready.grouped.fits })
