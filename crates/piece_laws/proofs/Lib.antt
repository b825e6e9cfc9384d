mod PiecesSpelled
mod Pieces
