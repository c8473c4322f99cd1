-- The two wait orders, and how a text writes their levels.
use Rattle.std.specs.Prelude.{Bool, false, ◌&&◌, ℤ, pos, negsuc, codes, ◌==◌, int_lt}
use Rattle.clearer.specs.declared.level.ZoneLevel.{ZoneLevel}
use Rattle.records.specs.Order.{Written}

-- RANK: the level is the first number, and the smaller one is below (`int_lt`)
abbrev pub rank_level : ℤ → ℤ → ℤ
rank_level number extra = number

abbrev pub rank_written : Written
rank_written = record { word = codes "RANK"; fields = 1; first = record { low = pos 0; high = pos 9999 }; second = record { low = pos 0; high = pos 0 } }

-- ZONE: a zone and a rank; below are the levels of the same zone with a smaller rank
abbrev pub zone_level : ℤ → ℤ → ZoneLevel
zone_level number extra = record { zone = number; rank = extra }

-- whether two numbers are the same
abbrev pub same_z : ℤ → ℤ → Bool
same_z (pos a) (pos b) = a == b
same_z (pos a) (negsuc b) = false
same_z (negsuc a) (pos b) = false
same_z (negsuc a) (negsuc b) = a == b

abbrev pub zone_below : ZoneLevel → ZoneLevel → Bool
zone_below x y = same_z x.zone y.zone && int_lt x.rank y.rank

abbrev pub zone_written : Written
zone_written = record { word = codes "ZONE"; fields = 2; first = record { low = pos 0; high = pos 99 }; second = record { low = pos 0; high = pos 9999 } }
