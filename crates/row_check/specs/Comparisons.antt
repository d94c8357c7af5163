-- Comparisons of two values.
use Rattle.std.specs.Prelude.{Bool, false, Option, Some, None}
use Rattle.std.specs.declared.cmp.Ordering.{Ordering}
use Rattle.std.specs.Ordering.{nat_cmp, int_cmp, bool_cmp, is_eq, is_ne, is_lt, is_le, is_gt, is_ge}
use Rattle.std.specs.Cmp.Lexicographic.{slice_cmp}
use Rattle.update_model.specs.declared.value.Value.{Value}
use Rattle.update_model.specs.declared.value.Value.TheVariants.{Null, Int, Text, Flag}
use Rattle.row_check.specs.declared.cmp.Cmp.{Cmp}
use Rattle.row_check.specs.declared.cmp.Cmp.TheVariants.{Eq, Ne, Lt, Le, Gt, Ge}

-- the order of two values: integers as numbers, texts by bytes, FALSE before TRUE, and none where a side is null,
-- where the kinds differ, or at references
abbrev pub order_of : Value → Value → Option Ordering
order_of (Int a) (Int b) = Some (int_cmp a b)
order_of (Text a) (Text b) = Some (slice_cmp nat_cmp a b)
order_of (Flag a) (Flag b) = Some (bool_cmp a b)
order_of left right = None

-- whether a comparison is true of sides in this order
abbrev pub accepts : Cmp → Ordering → Bool
accepts Eq order = is_eq order
accepts Ne order = is_ne order
accepts Lt order = is_lt order
accepts Le order = is_le order
accepts Gt order = is_gt order
accepts Ge order = is_ge order

-- where there is an order
abbrev pub accepts_some : Cmp → Option Ordering → Bool
accepts_some cmp (Some order) = accepts cmp order
accepts_some cmp None = false

-- whether a comparison of two values is true
abbrev pub compares : Cmp → Value → Value → Bool
compares cmp left right = accepts_some cmp (order_of left right)

-- The sides, where neither is null, are both integers, both texts or both flags.
abbrev pub AreComparable : Value → Value → Type 0
AreComparable Null right = Unit {0}
AreComparable left Null = Unit {0}
AreComparable (Int a) (Int b) = Unit {0}
AreComparable (Text a) (Text b) = Unit {0}
AreComparable (Flag a) (Flag b) = Unit {0}
AreComparable left right = ⊥
