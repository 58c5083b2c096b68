mod Tops
mod ScoreEnds
