-- `share_blocks::encode` meets its contract.
use mathlib.Core.Path.{◌≡◌, sym, ◌∙◌}
use native.Mathlib.Omega.{arith}
use lib.ListN.{length}
use Rattle.refusal.specs.Chain.{first}
use Rattle.refusal.proofs.Chains.{unless_done, unless_refused_lem}
use Rattle.refusal.proofs.Answered.{is_done, is_refused}
use Rattle.field.specs.Modulus.{prime}
use Rattle.share_blocks.specs.Internal.{encode_tests, encoded}
use Rattle.share_blocks.proofs.Fitting.{Fit, fit, encodable}
use Rattle.share_blocks.proofs.encode.Goals as goal
use Rattle.share_blocks.proofs.encode.Goals.{In_ok-encode_refusal}

pub returns-in_err-encode_refusal-clause-block : goal.returns-in_err-encode_refusal-clause-block
unfolding encoded
returns-in_err-encode_refusal-clause-block c = sym (unless_refused_lem _ _ _ (is_refused _ _ _ c.in_err-encode_refusal.ensures).0)

-- past the tests none holds, and all fits
clear : (c : In_ok-encode_refusal) → first (encode_tests (prime c.args.modulus) c.args.s c.args.xs.now c.args.masks.now (length c.args.out.now)) ≡ 0
clear c = (is_done _ _ _ c.in_ok-encode_refusal.ensures).0

fits : (c : In_ok-encode_refusal) → Fit (prime c.args.modulus) c.args.s c.args.xs.now c.args.masks.now (length c.args.out.now)
fits c = fit _ _ _ _ _ (clear c)

pub invariant_of-terms : goal.invariant_of-terms
invariant_of-terms c = record { encodable = encodable _ _ _ _ _ _ (omega arith) (fits (goal.at.invariant_of-terms c).In_ok-encode_refusal) }

pub encode_block-requires : goal.encode_block-requires
encode_block-requires c = (fits (goal.at.encode_block-requires c).In_ok-encode_refusal).passed.block

pub returns-clause-block : goal.returns-clause-block
unfolding encoded
returns-clause-block c = c.encode_block.ensures ∙ sym (unless_done _ _ _ (clear (goal.at.returns-clause-block c).In_ok-encode_refusal))
