-- What a world shows of its sessions while the lists of its replicas grow.
use Rattle.std.proofs.Common.{◌≡◌, ℕ, ◌<◌, Bool, true, false, List, length, map, Option, Some, None, refl, sym, ap, ap₂, subst, ◌∙◌}
use Rattle.std.specs.Prelude.{option_map, if◌then◌else◌}
use Rattle.std.specs.VecDeque.{deque_items}
use Rattle.sync_session.specs.Kept.{frame_of}
use Rattle.session_rules.specs.State.{SessionData}
use Rattle.update_model.specs.Rule.{RuleData}
use Rattle.byzantine_world.specs.Codes.{cut_code, cut_talk, end_over, list_at, takes_part_in, talk_over}
use Rattle.byzantine_world.specs.Events.{cut_code_with}
use Rattle.byzantine_world.specs.Standing.{IsSideSound, IsTalkSound}
use Rattle.byzantine_world.specs.declared.talk.Side.{Side}
use Rattle.byzantine_world.specs.declared.talk.Talk.{Talk}
use Rattle.byzantine_world.specs.declared.talk.Talk.TheVariants as talks
use Rattle.world_rules.specs.Lists.{Extends}
use Rattle.world_rules.specs.Meetings.{EndData}
use Rattle.world_rules.specs.Worlds as worlds
use Rattle.world_rules.specs.Worlds.{SiteData, SessionOf, cut, cut_end, cut_with, held_by, takes_part}
use Rattle.world_rules.proofs.Belonging.{belongs_still, seen_still}

-- The replicas are as many as before, and each list goes on from what it was.
pub record Grow (rule : RuleData) (sites new : List SiteData) : Type 0 where
  pub many : length new ≡ length sites
  pub each : (q : ℕ) → q < length sites → Extends rule (list_at sites q) (list_at new q)

module _ (rule : RuleData) (sites new : List SiteData) (grow : Grow rule sites new) where
  pub side_same : (q : ℕ) (side : Side) → q < length sites → IsSideSound rule (list_at sites q) side → end_over new q side ≡ end_over sites q side
  side_same q side low s =
      let e = grow.each q low in
      ap (λ (x : SessionData). record { state = x; is_cut = side.is_cut }) (seen_still (list_at sites q) (list_at new q) e.more side.session (s.belongs s.runs).stands.below e.begins)

  pub side_sound : (q : ℕ) (side : Side) → q < length sites → IsSideSound rule (list_at sites q) side → IsSideSound rule (list_at new q) side
  side_sound q side low s = record { belongs = belongs_still rule side.session (list_at sites q) (list_at new q) (grow.each q low) s.belongs; runs = s.runs; told = s.told }

  pub talk_same : (talk : Option Talk) → IsTalkSound rule sites talk → option_map (talk_over new) talk ≡ option_map (talk_over sites) talk
  talk_same None s = refl
  talk_same (Some (talks.Both both)) s =
      ap₂ (λ (a b : EndData). Some (worlds.Both (record { first = both.first; second = both.second; a = a; b = b; to_a = map frame_of (deque_items both.to_a); to_b = map frame_of (deque_items both.to_b) })))
      (side_same both.first both.a s.first s.a) (side_same both.second both.b s.second s.b)
  talk_same (Some (talks.Liar liar)) s =
      ap (λ (e : EndData). Some (worlds.Liar (record { first = liar.first; end = e; fed = liar.frames }))) (side_same liar.first liar.end s.first s.end)

  low_still : (q : ℕ) → q < length sites → q < length new
  low_still q low = subst (λ n. q < n) (sym grow.many) low

  pub talk_sound : (talk : Option Talk) → IsTalkSound rule sites talk → IsTalkSound rule new talk
  talk_sound None s = tt
  talk_sound (Some (talks.Both both)) s = record {
    first = low_still both.first s.first;
    second = low_still both.second s.second;
    a = side_sound both.first both.a s.first s.a;
    b = side_sound both.second both.b s.second s.b;
    to_a = s.to_a;
    to_b = s.to_b;
  }
  talk_sound (Some (talks.Liar liar)) s = record { first = low_still liar.first s.first; end = side_sound liar.first liar.end s.first s.end; fine = s.fine }

-- ---- cutting

module _ (rule : RuleData) (sites : List SiteData) where
  pub cut_side_shown : (q : ℕ) (side : Side) → IsSideSound rule (list_at sites q) side → cut_end (end_over sites q side) ≡ end_over sites q (cut_code side)
  cut_side_shown q side s = rw s.told refl

  pub cut_shown : (talk : Talk) → IsTalkSound rule sites (Some talk) → cut (talk_over sites talk) ≡ talk_over sites (cut_talk talk)
  cut_shown (talks.Both both) s =
      ap₂ (λ (a b : EndData). worlds.Both (record { first = both.first; second = both.second; a = a; b = b; to_a = map frame_of (deque_items both.to_a); to_b = map frame_of (deque_items both.to_b) }))
      (cut_side_shown both.first both.a s.a) (cut_side_shown both.second both.b s.b)
  cut_shown (talks.Liar liar) s =
      ap (λ (e : EndData). worlds.Liar (record { first = liar.first; end = e; fed = liar.frames })) (cut_side_shown liar.first liar.end s.end)

  part_shown : (r : ℕ) (talk : Talk) → takes_part r (talk_over sites talk) ≡ takes_part_in r talk
  part_shown r (talks.Both both) = refl
  part_shown r (talks.Liar liar) = refl

  if_cut : (b : Bool) (talk : Talk) → IsTalkSound rule sites (Some talk) → (if b then cut (talk_over sites talk) else talk_over sites talk) ≡ talk_over sites (if b then cut_talk talk else talk)
  if_cut true talk s = cut_shown talk s
  if_cut false talk s = refl

  pub cut_with_shown : (r : ℕ) (talk : Option Talk) → IsTalkSound rule sites talk → cut_with r (option_map (talk_over sites) talk) ≡ option_map (talk_over sites) (cut_code_with r talk)
  cut_with_shown r None s = refl
  cut_with_shown r (Some talk) s =
      ap (λ (x : SessionOf). Some x) (ap (λ (b : Bool). if b then cut (talk_over sites talk) else talk_over sites talk) (part_shown r talk) ∙ if_cut (takes_part_in r talk) talk s)
