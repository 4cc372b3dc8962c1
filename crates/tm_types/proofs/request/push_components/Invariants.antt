use Rattle.std.proofs.Common.{◌≡◌, ◌∷◌, ◌++◌, take, flat_map}
use Rattle.tm_number.specs.Component.{Component}
use Rattle.tm_number.specs.Printing.{element_bytes}
use Rattle.tm_types.proofs.request.push_components.Given as goal

abbrev pub invariant-loop-component : goal.invariant-loop-component
invariant-loop-component l = l.out.items ≡ l.initial.out.items ++ flat_map (λ (c : Component). 47 ∷ flat_map element_bytes c.first) (take l.component-index l.components)
