-- The scene as the definitions have it.
use Rattle.rc_ast.specs.Sheet.{sheet_seen}
use Rattle.rc_rules.specs.Control.{frames_seen}
use Rattle.rc_play_spec.specs.Value.{Scene as PureScene}
use Rattle.rc_play_spec.specs.Scene.{CardValue, scene_of}
use Rattle.rc_value.specs.declared.scene.Scene.{Scene}

unfoldable pub scene_seen : Scene → PureScene CardValue
scene_seen s = scene_of (sheet_seen s.sheet.now) s.table.now.shape s.table.now.table (frames_seen s.frames.now)
