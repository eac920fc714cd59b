-- What holds where no row applies.
use Rattle.std.proofs.Common.{◌≡◌, ℕ, Bool, true, false, Option, Some, None, Ok, Err, refl}
use Rattle.rc_play_spec.specs.Why.{Why, Illegal}
use Rattle.rc_play_spec.specs.Rows.{unless, ◌or◌}
use Rattle.rc_play_spec.specs.Judged.{at_line}
use Rattle.rc_play_spec.specs.Along.{Judging, on_row, and_then, or_illegal}

pub unless_none : (b : Bool) (w : Why) → unless b w ≡ None → b ≡ true
unless_none true w e = refl
unless_none false w e = absurd cc

pub or_none : (a b : Option Why) → (a or b) ≡ None → (a ≡ None) × (b ≡ None)
or_none None b e = (refl, e)
or_none (Some w) b e = absurd cc

pub on_row_ok : {A : Type 0} (n : ℕ) (o : Option Why) (later : Judging A) (x : A) → on_row n o later ≡ Ok x → (o ≡ None) × (later ≡ Ok x)
on_row_ok n None later x e = (refl, e)
on_row_ok n (Some w) later x e = absurd cc

pub and_ok : {A B : Type 0} (x : Judging A) (f : A → Judging B) (y : B) → and_then x f ≡ Ok y → (z : A) × (x ≡ Ok z) × (f z ≡ Ok y)
and_ok (Ok x) f y e = (x, refl, e)
and_ok (Err w) f y e = absurd cc

pub or_ok : {A : Type 0} (x : Judging A) (f : A → Option Illegal) → or_illegal x f ≡ None → (z : A) × (x ≡ Ok z) × (f z ≡ None)
or_ok (Ok x) f e = (x, refl, e)
or_ok (Err w) f e = absurd cc

pub at_line_none : (n : ℕ) (o : Option Why) (later : Option Illegal) → at_line n o later ≡ None → (o ≡ None) × (later ≡ None)
at_line_none n None later e = (refl, e)
at_line_none n (Some w) later e = absurd cc
