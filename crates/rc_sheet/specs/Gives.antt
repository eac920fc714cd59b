-- What a function returned is what the reading gives.
use Rattle.std.specs.Prelude.{◌≡◌, Option, Some, None, Result, Ok, Err, Box}
use Rattle.std.specs.Global.{Global}
use Rattle.rc_sheet.specs.declared.fail.Unread.{Unread}
use Rattle.rc_sheet.specs.declared.fail.Unread.TheVariants.{Meaningless, Memory}

-- nothing is read; nothing is said where memory ran out
abbrev pub Fails : {Y : Type 0} → Unread → Option Y → Type 0
Fails Memory reading = Unit {0}
Fails Meaningless reading = reading ≡ None

-- what was returned, by its view, is what the reading gives, unless memory ran out
abbrev pub Gives : {X Y : Type 0} → (X → Y) → Result X Unread → Option Y → Type 0
Gives view (Ok x) reading = reading ≡ Some (view x)
Gives view (Err fail) reading = Fails fail reading

-- what was read is in a box, unless memory ran out
abbrev pub IsBoxed : {X : Type 0} → Result X Unread → Result (Box X Global) Unread → Type 0
IsBoxed (Ok x) (Ok boxed) = boxed.value ≡ x
IsBoxed (Ok x) (Err fail) = fail ≡ Memory
IsBoxed (Err fail) boxed = boxed ≡ Err fail

-- two readings together, or why the first of them that isn't there isn't
abbrev pub AreBoth : {A B : Type 0} → Result A Unread → Result B Unread → Result (A × B) Unread → Type 0
AreBoth (Ok a) (Ok b) two = two ≡ Ok (a, b)
AreBoth (Ok a) (Err fail) two = two ≡ Err fail
AreBoth (Err fail) second two = two ≡ Err fail
