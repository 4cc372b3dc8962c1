use Rattle.std.proofs.Common.{◌≡◌, [], drop}
use Rattle.tm_log.specs.Execs.{environment_of}
use Rattle.tm_log.proofs.exec.environment_of.Given as goal

-- from here on it gives what the whole gives
abbrev pub invariant-loop-word : goal.invariant-loop-word
invariant-loop-word l = environment_of l.envp (drop l.word-index l.words) ≡ environment_of [] l.words
