use Rattle.std.proofs.Common.{◌≡◌, ◌+◌, ◌%◌, ◌≤◌, length, Some, ◌*◌}
use Rattle.osc_packet.specs.Reading.{element_fault, body_fault}
use Rattle.osc_packet.proofs.checks.+elements.Given as goal

abbrev pub decreases-check_element : goal.decreases-check_element
decreases-check_element l = 2 * l.left

abbrev pub decreases-check_elements : goal.decreases-check_elements
decreases-check_elements l = 2 * l.left + 1

-- what is wrong with the rest is what is wrong with all
abbrev pub invariant-check_elements-loop-rest : goal.invariant-check_elements-loop-rest
invariant-check_elements-loop-rest l = record {
  fourfold : length l.rest % 4 ≡ 0;
  inside : l.place + length l.rest ≤ 65504;
  read : body_fault (element_fault l.left (Some l.tag)) l.place l.rest ≡ body_fault (element_fault l.left (Some l.tag)) l.at l.bytes;
}

abbrev pub decreases-check_elements-loop-rest : goal.decreases-check_elements-loop-rest
decreases-check_elements-loop-rest l = length l.rest
