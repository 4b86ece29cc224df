-- Encoding: weights times the blocks of a matrix and the masks, summed into one block.
pub mod Internal
