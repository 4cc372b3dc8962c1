-- Notes of calls made one after the other.
use Rattle.std.proofs.Common.{List, [], ◌++◌, Option, None, Some, sym, ap, ◌∙◌, append_assoc, append-nil}
use Rattle.tm_io.specs.declared.names.FileName.{FileName}
use Rattle.tm_io.specs.Notes.{Noted}

pub noted-none : (a : Option (List FileName)) → Noted [] a a
noted-none None = tt
noted-none (Some names) = sym (append-nil names)

pub noted-both : (a b c : Option (List FileName)) (first later : List FileName) → Noted first a b → Noted later b c → Noted (first ++ later) a c
noted-both a b None first later p q = tt
noted-both a None (Some z) first later p q = absurd q
noted-both None (Some y) (Some z) first later p q = absurd p
noted-both (Some x) (Some y) (Some z) first later p q = q ∙ ap (λ l. l ++ later) p ∙ append_assoc x first later
