-- What a borrowed word holds.
use Rattle.std.specs.Prelude.{◌≤◌, length, IsTrue}
use Rattle.std.specs.List.{list_all}
use Rattle.rc_base.specs.Token.{is_part}
use Rattle.rc_form.specs.declared.word.WordRef.TheInside.{Inside}

-- 1 to 64 bytes that may stand in an atom
pub record IsWord (word : Inside) : Type 0 where
  pub some : 1 ≤ length word.bytes.now
  pub short : length word.bytes.now ≤ 64
  pub parts : IsTrue (list_all is_part word.bytes.now)
