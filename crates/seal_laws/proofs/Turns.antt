-- Which keys are open, through the calls of a two-level key.
use Rattle.std.proofs.Common.{◌≡◌, ℕ, List, refl, sym, ◌∙◌, ap, Bool, true, false, Option, Some, None}
use Rattle.std.specs.Prelude.{◌≢◌, if◌then◌else◌}
use Rattle.std.specs.Str.{bytes_eq}
use Rattle.std.proofs.lemmas.Slice.Eq.{bytes_eq-Decides}
use Rattle.bec_disk.specs.Shelf.{ShelfState}
use Rattle.key_index.specs.KeyState.{KeyState}
use Rattle.hss_directory.specs.Calls.{hss_of}
use Rattle.hss_directory.specs.Values.{LowerState}
use Rattle.seal_laws.specs.Calls.{held_below, held_by, world_of}
use Rattle.seal_laws.specs.Worlds.{NowHolds}

same_bytes : (dir : List ℕ) → bytes_eq dir dir ≡ true
same_bytes dir = (bytes_eq-Decides dir dir).1 refl

other_bytes : (dir other : List ℕ) → dir ≢ other → bytes_eq dir other ≡ false
other_bytes dir other ne = by (bytes_eq dir other) refl
  where
    by : (b : Bool) → bytes_eq dir other ≡ b → bytes_eq dir other ≡ false
    by true e = absurd (ne ((bytes_eq-Decides dir other).0 e))
    by false e = e

pub top_held : (dir : List ℕ) (top : KeyState) (lower : Option LowerState) (others : List ℕ → Option KeyState) → held_by (Some (hss_of dir top lower)) others dir ≡ Some top
top_held dir top lower others = ap (λ (b : Bool). if b then Some top else held_below lower others dir) (same_bytes dir)

pub below_held : (dir other : List ℕ) (top : KeyState) (lower : Option LowerState) (others : List ℕ → Option KeyState) → other ≢ dir
    → held_by (Some (hss_of dir top lower)) others other ≡ held_below lower others other
below_held dir other top lower others ne = ap (λ (b : Bool). if b then Some top else held_below lower others other) (other_bytes other dir ne)

lower_at : (lower : LowerState) (others : List ℕ → Option KeyState) → held_below (Some lower) others lower.dir ≡ Some lower.key
lower_at lower others = ap (λ (b : Bool). if b then Some lower.key else others lower.dir) (same_bytes lower.dir)

lower_off : (lower : LowerState) (others : List ℕ → Option KeyState) (other : List ℕ) → other ≢ lower.dir → held_below (Some lower) others other ≡ others other
lower_off lower others other ne = ap (λ (b : Bool). if b then Some lower.key else others other) (other_bytes other lower.dir ne)

pub lower_held : (dir : List ℕ) (top : KeyState) (lower : LowerState) (others : List ℕ → Option KeyState) → lower.dir ≢ dir → held_by (Some (hss_of dir top (Some lower))) others lower.dir ≡ Some lower.key
lower_held dir top lower others ne = below_held dir lower.dir top (Some lower) others ne ∙ lower_at lower others

-- where the same is open below
same_below : (dir other : List ℕ) (top : KeyState) (lower next : Option LowerState) (others : List ℕ → Option KeyState) → held_below next others other ≡ held_below lower others other
    → held_by (Some (hss_of dir top next)) others other ≡ held_by (Some (hss_of dir top lower)) others other
same_below dir other top lower next others same = ap (λ (h : Option KeyState). if bytes_eq other dir then Some top else h) same

-- the top key is open
pub top_opens : (before after : ShelfState) (dir : List ℕ) (top : KeyState) (others : List ℕ → Option KeyState)
    → NowHolds (world_of before None others) dir (Some top) (world_of after (Some (hss_of dir top None)) others)
top_opens before after dir top others = record { here = top_held dir top None others; others = λ other ne. below_held dir other top None others ne }

-- is closed
pub top_closes : (before after : ShelfState) (dir : List ℕ) (top : KeyState) (others : List ℕ → Option KeyState) → others dir ≡ None
    → NowHolds (world_of before (Some (hss_of dir top None)) others) dir None (world_of after None others)
top_closes before after dir top others none = record { here = none; others = λ other ne. sym (below_held dir other top None others ne) }

-- or has signed
pub top_turns : (before after : ShelfState) (dir : List ℕ) (top next : KeyState) (lower : Option LowerState) (others : List ℕ → Option KeyState)
    → NowHolds (world_of before (Some (hss_of dir top lower)) others) dir (Some next) (world_of after (Some (hss_of dir next lower)) others)
top_turns before after dir top next lower others = record {
  here = top_held dir next lower others;
  others = λ other ne. below_held dir other next lower others ne ∙ sym (below_held dir other top lower others ne);
}

-- a lower key is open
pub lower_opens : (before after : ShelfState) (dir : List ℕ) (top : KeyState) (lower : LowerState) (others : List ℕ → Option KeyState) → lower.dir ≢ dir
    → NowHolds (world_of before (Some (hss_of dir top None)) others) lower.dir (Some lower.key) (world_of after (Some (hss_of dir top (Some lower))) others)
lower_opens before after dir top lower others ne = record {
  here = lower_held dir top lower others ne;
  others = λ other away. same_below dir other top None (Some lower) others (lower_off lower others other away);
}

-- is closed
pub lower_closes : (before after : ShelfState) (dir : List ℕ) (top : KeyState) (lower : LowerState) (others : List ℕ → Option KeyState) → lower.dir ≢ dir → others lower.dir ≡ None
    → NowHolds (world_of before (Some (hss_of dir top (Some lower))) others) lower.dir None (world_of after (Some (hss_of dir top None)) others)
lower_closes before after dir top lower others ne none = record {
  here = below_held dir lower.dir top None others ne ∙ none;
  others = λ other away. same_below dir other top (Some lower) None others (sym (lower_off lower others other away));
}

-- or has signed
pub lower_turns : (before after : ShelfState) (dir : List ℕ) (top : KeyState) (lower : LowerState) (next : KeyState) (others : List ℕ → Option KeyState) → lower.dir ≢ dir
    → NowHolds (world_of before (Some (hss_of dir top (Some lower))) others) lower.dir (Some next) (world_of after (Some (hss_of dir top (Some (record lower { key = next })))) others)
lower_turns before after dir top lower next others ne =
    let signed : LowerState = record lower { key = next } in
    record {
      here = lower_held dir top signed others ne;
      others = λ other away. same_below dir other top (Some lower) (Some signed) others (lower_off signed others other away ∙ sym (lower_off lower others other away));
    }
