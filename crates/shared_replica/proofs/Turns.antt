-- A turn, from its pass to the next.
use Rattle.std.proofs.Common.{◌≡◌, ◌≢◌, ℕ, ◌+◌, ◌<◌, Bool, false, List, [], ◌++◌, Some, length, drop, ap, sym, ◌∙◌, subst, arith, append-nil}
use Rattle.std.specs.Prelude.{All}
use Rattle.std.proofs.lemmas.List.Elements.{All-weaker}
use mathlib.Core.List.{IsPrefix}
use Rattle.shared_replica.specs.declared.entry.Entry.{Entry}
use Rattle.shared_replica.specs.Acts.{Grows, IsAct}
use Rattle.shared_replica.specs.Entries.{Story, entries_by, maker_of, updates_of, IsStoreOf}
use Rattle.shared_replica.proofs.Lists.{made_by, updates_begin}
use Rattle.turn_lock.specs.Seats.{Known, Turning}
use Rattle.turn_lock.specs.Turns.{MadeBy}

-- an act that only looks
pub looks : (s : Story) (seat act : ℕ) → IsStoreOf s.entries s.store → Grows s s seat act false
looks s seat act is = record { added = []; members = sym (append-nil _); entries = sym (append-nil _); before = is; after = is }

module _ (turn : Turning Entry) (old new : Story) (seat act : ℕ) (fault : Bool) (value : old.entries ≡ turn.taken) (seat_is : seat ≡ turn.seat) (act_is : act ≡ turn.act) (grows : Grows old new seat act fault) where
  pub gives : (own : List Entry) × (new.entries ≡ turn.taken ++ own) × MadeBy maker_of turn.seat turn.act own
  gives = (
    entries_by turn.seat turn.act grows.added fault,
    grows.entries ∙ (λ i. value i ++ entries_by (seat_is i) (act_is i) grows.added fault),
    made_by turn.seat turn.act grows.added fault,
  )

  pub acts : (before after : Known Entry) → turn.lock ≡ before.lock → IsPrefix before.seen turn.taken → ((n : ℕ) → before.number ≡ Some n → turn.seat ≡ n) → turn.act ≡ before.acts + 1
      → All (λ e. maker_of e ≢ Some (turn.seat, turn.act)) turn.taken → All (λ e. (act : ℕ) → maker_of e ≢ Some (turn.seat, act)) (drop (length before.seen) turn.taken) → turn.others ≡ before.others
      → after ≡ record { lock = turn.lock; seen = new.entries; number = Some turn.seat; acts = turn.act; others = turn.others }
      → IsAct before after old.entries old.store new.store fault
  acts before after lock seen number counts unused alone others given = record {
    same_lock = ap (λ k. k.lock) given ∙ lock;
    began = subst (λ (l : List Entry). IsPrefix before.seen l) (sym value) seen;
    counted = ap (λ k. k.acts) given ∙ counts;
    named = λ n is. ap (λ k. k.number) given ∙ ap Some (number n is);
    seat = turn.seat;
    number = ap (λ k. k.number) given;
    others = ap (λ k. k.others) given ∙ others;
    unused = subst (λ (z : List Entry × ℕ). All (λ e. maker_of e ≢ Some (turn.seat, z.1)) z.0) (λ i. (sym value i, sym (ap (λ k. k.acts) given) i)) unused;
    alone = subst (λ (l : List Entry). All (λ e. (act : ℕ) → maker_of e ≢ Some (turn.seat, act)) (drop (length before.seen) l)) (sym value) alone;
    added = grows.added;
    members = grows.members;
    ended = ap (λ k. k.seen) given ∙ grows.entries ∙ (λ i. old.entries ++ entries_by (seat_is i) ((act_is ∙ sym (ap (λ k. k.acts) given)) i) grows.added fault);
    stood = grows.before;
    stands = subst (λ (l : List Entry). IsStoreOf l new.store) (sym (ap (λ k. k.seen) given)) grows.after;
  }

below : (seen taken list : List Entry) (position : ℕ) → IsPrefix seen taken → list ≡ taken → position < length (updates_of seen) → position < length (updates_of list)
below seen taken list position begins is less = let n : length (updates_of list) ≡ length (updates_of taken) = ap (λ l. length (updates_of l)) is in omega (arith, updates_begin seen taken begins)

pub all_below : (seen taken list : List Entry) (positions : List ℕ) → IsPrefix seen taken → list ≡ taken → All (λ p. p < length (updates_of seen)) positions → All (λ p. p < length (updates_of list)) positions
all_below seen taken list positions begins is less = All-weaker (λ p. p < length (updates_of seen)) (λ p. p < length (updates_of list)) (λ p low. below seen taken list p begins is low) positions less
