-- The four printed texts of a policy.
use Rattle.tm_rules.specs.Types.{Policy, PolicyFiles}
use Rattle.tm_text.specs.DomainText.{domain_text}
use Rattle.tm_text.specs.ExceptionText.{exception_text}
use Rattle.tm_text.specs.ManagerText.{manager_text}
use Rattle.tm_text.specs.ProfileText.{profile_text}

-- what is printed of a policy, file by file
abbrev pub policy_text : Policy → PolicyFiles
policy_text policy =
    record {
      profile = profile_text policy;
      exception = exception_text policy;
      domain = domain_text policy;
      manager = manager_text policy;
    }
