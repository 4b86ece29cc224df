-- A job as words, as C and the test programs lend it.
--
--   job_of words == the job of 13 words, in the order of its fields
use Rattle.std.specs.Prelude.{List, ℕ, get_or}
use Rattle.plan.specs.declared.Job.{Job}

unfoldable pub job_of : List ℕ → Job
job_of words = record {
  modulus = get_or words 0 0;
  t = get_or words 1 0;
  s = get_or words 2 0;
  r = get_or words 3 0;
  m = get_or words 4 0;
  p = get_or words 5 0;
  n = get_or words 6 0;
  xa = get_or words 7 0;
  xb = get_or words 8 0;
  hosts = get_or words 9 0;
  number = get_or words 10 0;
  opening = get_or words 11 0;
  closing = get_or words 12 0;
}
