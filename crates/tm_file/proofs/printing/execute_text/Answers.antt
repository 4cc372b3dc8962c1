use Rattle.std.proofs.Common.{rules, ◌≡◌, ◌∙◌, ◌++◌, ◌∷◌}
use Rattle.std.specs.Prelude.{codes}
use Rattle.tm_line.specs.declared.permissions.Row.{Row}
use Rattle.tm_line.specs.Lines.{spaced}
use Rattle.tm_line.specs.Permissions.{perms_spelling}
use Rattle.tm_line.specs.Printing.{name_spelling}
use Rattle.tm_line.proofs.JoinLaws.{pushed_three}
use Rattle.tm_file.specs.Preferences.{prefer_words}
use Rattle.tm_file.specs.FileLines.{file_words}
use Rattle.tm_file.proofs.printing.execute_text.Goals as goal

pub returns : goal.returns
unfolding file_words
returns c =
    let perms = perms_spelling Row.Path c.args.bits in
    let name = name_spelling c.args.name.now in
    let words = prefer_words c.args.prefer.now in
    let pushed : c.push_prefer.new.out.items ≡ ((codes "file" ++ 32 ∷ perms) ++ 32 ∷ name) ++ spaced words = search rules in
    pushed ∙ pushed_three (codes "file") perms name words
