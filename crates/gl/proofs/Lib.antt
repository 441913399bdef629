mod TextsTold
mod ProofTold
mod Moved
