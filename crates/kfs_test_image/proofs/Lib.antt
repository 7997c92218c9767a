mod EachEdit
mod LandedNets
mod OneEdit
mod TwoBlocks
