-- What is encoded is read again.
use Rattle.osc_atoms.proofs.Numbers.{word_again, tag_again}
use Rattle.osc_atoms.proofs.Strings.{string_again}
use Rattle.osc_atoms.proofs.Blobs.{blob_again}
use Rattle.osc_atoms.proofs.laws.encoded_is_read_again.Goals as goal

pub returns-clause-of_word : goal.returns-clause-of_word
returns-clause-of_word c = word_again

pub returns-clause-of_tag : goal.returns-clause-of_tag
returns-clause-of_tag c = tag_again

pub returns-clause-of_string : goal.returns-clause-of_string
returns-clause-of_string c = string_again

pub returns-clause-of_blob : goal.returns-clause-of_blob
returns-clause-of_blob c = blob_again
