-- Scenes as the readers of this language give them.
use Rattle.std.specs.Prelude.{◌≡◌, true}
use Rattle.std.specs.List.{list_all}
use Rattle.tm_trace.specs.Written.{IsTrace}
use Rattle.tm_script.specs.Written.{is_editor}
use Rattle.tm_legal.specs.Prelude.{CanPlay, Scene}
use Rattle.tm_grammar.specs.Tomoyo.{tomoyo_grammar}

-- the grammar is this language's, the scene can be played, and its trace and its editors are such
-- as texts write
pub record IsReadScene (scene : Scene) : Type 0 where
  pub grammar : scene.grammar ≡ tomoyo_grammar
  pub can_play : CanPlay scene
  pub trace : IsTrace scene.trace
  pub editors : list_all is_editor scene.editors ≡ true
