-- A key that is taken, asked for its public key, and put back.
use Rattle.std.proofs.Common.{◌≡◌, ◌≢◌, ◌⊎◌, inl, inr, ℕ, List, [], ◌∷◌, ◌++◌, refl, sym, ap, subst, ◌∙◌, IsTrue, Some, Ok, Err, append_assoc}
use Rattle.std.specs.Int.{w32, to_be_bytes}
use Rattle.hex.specs.Hex.{encode_lower}
use Rattle.bec_bytes.specs.Causes.{Rose}
use Rattle.bec_disk.specs.Shelf.{PartState, ShelfState, absent, out, stands}
use Rattle.bec_disk.specs.Slot.{slot}
use Rattle.bec_disk.specs.declared.part.Part.TheVariants.{Key, Used}
use Rattle.graph_drawing.specs.Words.{key_digits}
use Rattle.key_directory.specs.Keys.{IsKeyCause, LetsKeyGo, PutsKey, TakesKey}
use Rattle.key_directory.specs.Parts.{IsHome, IsUntouched, KeepsAllBut, part_in}
use Rattle.key_directory.specs.declared.key_refusal.KeyRefusal.{KeyRefusal}
use Rattle.key_directory.specs.declared.key_refusal.KeyRefusal.TheVariants as key_refusals
use Rattle.key_directory.proofs.Handing.{put_untouched}
use Rattle.key_directory.proofs.Places.{home_again, keeps_through, stands-not-out}
use Rattle.key_directory.proofs.Putting.{slot_of, told}
use Rattle.key_index.specs.KeyState.{KeyState}
use Rattle.lms_tree.specs.SecretKey.{public_key}
use Rattle.node_commands.proofs.NewKeys.{encode-append}
use Rattle.outcomes.specs.Outcome.{Outcome, from_key}
use Rattle.outcomes.specs.Texts.{key_text}
use Rattle.outcomes.specs.StoreAnswers.{bad_key, no_key}
use Rattle.outcomes.specs.declared.refusal.Refusal.TheVariants as refusals
use Rattle.update_model.specs.declared.author_key.AuthorKey.{AuthorKey}
use Rattle.look_commands.specs.Keys.{PrintsKeyOf, ShowsKey, printed, refused}

-- ---- the line

-- the digits of a key are those of its spelling
pub digits_are : (key : AuthorKey) → key_digits key ++ 10 ∷ [] ≡ key_text key
unfolding key_digits
digits_are key =
    let lms = to_be_bytes w32 key.lms in
    let ots = to_be_bytes w32 key.ots in
    ap (λ (w : List ℕ). w ++ 10 ∷ [])
    (sym (encode-append lms (ots ++ (key.ident ++ key.root))
    ∙ ap (λ (w : List ℕ). encode_lower lms ++ w) (encode-append ots (key.ident ++ key.root) ∙ ap (λ (w : List ℕ). encode_lower ots ++ w) (encode-append key.ident key.root))))

-- ---- places

-- a part that was at most read is in its place where it was
pub still_in : (old new : PartState) → IsUntouched old new → old ≢ out → new ≢ out
still_in absent new is here = λ e. here (sym is ∙ e)
still_in out new is here = absurd (here refl)
still_in (stands old) absent is here = absurd is
still_in (stands old) out is here = absurd is
still_in (stands old) (stands new) is here = stands-not-out (stands new) new refl

-- no part is handed out, where both parts of a key were at most read
home_still : (dir : List ℕ) (before after : ShelfState) → IsHome before → IsUntouched (part_in before dir Key) (part_in after dir Key) → IsUntouched (part_in before dir Used) (part_in after dir Used)
    → KeepsAllBut (Key ∷ Used ∷ []) dir before after → IsHome after
home_still dir before after home key used others =
    home_again Key Used dir after (still_in (part_in before dir Key) (part_in after dir Key) key (home (slot dir Key))) (still_in (part_in before dir Used) (part_in after dir Used) used (home (slot dir Used)))
    (λ other away. subst (λ (p : PartState). p ≢ out) (sym (others other away)) (home other))

module _ (dir : List ℕ) (before : ShelfState) (home : IsTrue before.tells → IsHome before) where
  -- ---- refused

  module _ (after : ShelfState) (old new : ℕ) (lets : LetsKeyGo before dir after) where
    pub key_refused : (why : KeyRefusal) → (IsTrue before.tells → IsKeyCause before dir why) → (why ≡ key_refusals.DiskFault → Rose old new) → ShowsKey dir before after old new (Err (from_key why))
    key_refused key_refusals.NoKey cause failed = record {
      comes = inl (λ tells. refused refusals.NoKey (no_key (cause tells) refl) refl);
      ends = inl tt;
      key_read = lets.key_part;
      used_read = lets.used_part;
      others = lets.others;
      home = λ tells. home_still dir before after (home tells) (lets.key_part tells) (lets.used_part tells) (lets.others tells);
    }
    key_refused key_refusals.BadKey cause failed = record {
      comes = inl (λ tells. refused refusals.BadKey (bad_key (cause tells) refl) refl);
      ends = inl tt;
      key_read = lets.key_part;
      used_read = lets.used_part;
      others = lets.others;
      home = λ tells. home_still dir before after (home tells) (lets.key_part tells) (lets.used_part tells) (lets.others tells);
    }
    key_refused key_refusals.DiskFault cause failed = record {
      comes = inr (inr (refl, failed refl));
      ends = inr (inr (refl, failed refl));
      key_read = lets.key_part;
      used_read = lets.used_part;
      others = lets.others;
      home = λ tells. home_still dir before after (home tells) (lets.key_part tells) (lets.used_part tells) (lets.others tells);
    }
    key_refused key_refusals.Memory cause failed = record {
      comes = inr (inl refl);
      ends = inr (inl refl);
      key_read = lets.key_part;
      used_read = lets.used_part;
      others = lets.others;
      home = λ tells. home_still dir before after (home tells) (lets.key_part tells) (lets.used_part tells) (lets.others tells);
    }

  -- ---- taken

  module _ (opened : ShelfState) (key : KeyState) (takes : TakesKey before dir key opened) where
    -- the disks of a key that was taken are those of its parts
    pub key_slots : IsTrue opened.tells → ((key.parts.key.slot ≡ Some (slot dir Key)) × (part_in opened dir Key ≡ out)) × ((key.parts.used.slot ≡ Some (slot dir Used)) × (part_in opened dir Used ≡ out))
    key_slots tells =
        let t : IsTrue before.tells = told opened.tells before.tells (sym takes.tells) tells in (
          (slot_of (slot dir Key) (takes.key_part t).0 key.parts.key (takes.key_part t).2, takes.key_out t),
          (slot_of (slot dir Used) (takes.used_part t).0 key.parts.used (takes.used_part t).2, takes.used_out t),
        )

    module _ (after : ShelfState) (old new : ℕ) (puts : PutsKey opened dir key.parts after) where
      told_opened : IsTrue before.tells → IsTrue opened.tells
      told_opened tells = told before.tells opened.tells takes.tells tells

      key_read : IsTrue before.tells → IsUntouched (part_in before dir Key) (part_in after dir Key)
      key_read tells = put_untouched (slot dir Key) (takes.key_part tells).0 key.parts.key (part_in before dir Key) (part_in after dir Key) (takes.key_part tells).1 (takes.key_part tells).2 (puts.key_back (told_opened tells))

      used_read : IsTrue before.tells → IsUntouched (part_in before dir Used) (part_in after dir Used)
      used_read tells = put_untouched (slot dir Used) (takes.used_part tells).0 key.parts.used (part_in before dir Used) (part_in after dir Used) (takes.used_part tells).1 (takes.used_part tells).2 (puts.used_back (told_opened tells))

      others_kept : IsTrue before.tells → KeepsAllBut (Key ∷ Used ∷ []) dir before after
      others_kept tells = keeps_through (Key ∷ Used ∷ []) dir before opened after takes.others (puts.others (told_opened tells))

      home_kept : IsTrue before.tells → IsHome after
      home_kept tells = home_still dir before after (home tells) (key_read tells) (used_read tells) (others_kept tells)

      -- its public key is printed
      pub key_shown : (outcome : Outcome) → PrintsKeyOf key.secret outcome → ShowsKey dir before after old new outcome
      key_shown (Ok text) prints = record {
        comes = inl (λ tells. printed key.secret (takes.reads tells) prints);
        ends = inl (key.secret, prints);
        key_read = key_read;
        used_read = used_read;
        others = others_kept;
        home = home_kept;
      }
      key_shown (Err refusal) prints = absurd prints

      -- or memory ran out
      pub key_lacked : ShowsKey dir before after old new (Err refusals.Memory)
      key_lacked = record { comes = inr (inl refl); ends = inr (inl refl); key_read = key_read; used_read = used_read; others = others_kept; home = home_kept }
